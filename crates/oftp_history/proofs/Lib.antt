pub mod DetailLemmas
pub mod PastLemmas
pub mod Utf8
