pub mod SourceLemmas
pub mod Readings
pub mod Pieces
