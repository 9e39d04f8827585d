pub mod Halves
pub mod PairCalls
