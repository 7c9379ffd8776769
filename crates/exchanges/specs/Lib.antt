pub mod Least
pub mod Frames
pub mod Valid
pub mod Downlinks
