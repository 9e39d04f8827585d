pub mod Asks
pub mod Waiting
pub mod Pick
pub mod Kept
pub mod Runs
pub mod Called
