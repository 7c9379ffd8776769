pub mod Downlinks
