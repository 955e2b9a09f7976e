pub mod Appending
pub mod Losing
pub mod Played
pub mod Tearing
