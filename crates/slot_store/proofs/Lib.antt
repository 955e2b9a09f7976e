pub mod Areas
pub mod Disks
pub mod Cells
pub mod Records
pub mod Puts
pub mod Spared
pub mod Mounts
pub mod Zeros
