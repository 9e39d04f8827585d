pub mod Examples
mod Drawn
