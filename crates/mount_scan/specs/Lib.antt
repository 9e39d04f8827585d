pub mod Mounted
pub mod New
pub mod Noted
pub mod Scanned
pub mod Settled
pub mod Sight
