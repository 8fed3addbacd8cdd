pub mod Meanings
pub mod Pairs
pub mod PairLaws
