pub mod Rows
pub mod Folder
pub mod Prepare
pub mod Adding
