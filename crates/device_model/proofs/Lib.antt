pub mod Keeps
pub mod Passes
pub mod Refilled
pub mod Waits
pub mod Writes
pub mod Appends
