pub mod DataForms
pub mod Counts
pub mod Mics
pub mod Downlinks
