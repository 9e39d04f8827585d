pub mod Table
pub mod Spare
pub mod SpareLaws
pub mod Book
pub mod Tallies
pub mod Entering
pub mod Opening
