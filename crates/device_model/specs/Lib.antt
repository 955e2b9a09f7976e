pub mod Disk
pub mod Work
pub mod State
pub mod How
pub mod Events
pub mod Names
