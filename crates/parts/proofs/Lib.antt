pub mod ChainLemmas
pub mod DueLemmas
