pub mod ValidWords
pub mod Spelled
pub mod Reading
pub mod Spelling
