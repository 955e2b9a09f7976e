pub mod Rows
pub mod FirstLine
pub mod Reading
pub mod Faults
pub mod SpellingLemmas
