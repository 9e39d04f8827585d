pub mod Carried
pub mod Groups
pub mod Layouts
pub mod Meaning
pub mod Striping
pub mod Writes
