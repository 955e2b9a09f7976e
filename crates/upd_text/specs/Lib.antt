pub mod Text
pub mod Counts
pub mod Order
pub mod Forms
pub mod Parts
pub mod Results
pub mod Told
