pub mod ListLemmas
pub mod Inserted
pub mod FormLemmas
pub mod DueLemmas
pub mod Places
