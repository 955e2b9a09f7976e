pub mod Steps
pub mod Counts
pub mod Positions
pub mod Resuming
pub mod Named
