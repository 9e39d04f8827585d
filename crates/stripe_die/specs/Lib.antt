pub mod Places
pub mod Pair
pub mod PairLaws
