pub mod Offer
pub mod Recycling
