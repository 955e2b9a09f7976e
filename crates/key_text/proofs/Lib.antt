pub mod DerLemmas
pub mod PemLemmas
pub mod KeyLemmas
pub mod KeysLemmas
