pub mod Least
pub mod Reading
pub mod Counting
pub mod Downlinks
