pub mod Pair
pub mod PairLaws
pub mod MoreLaws
pub mod ShareLaws
