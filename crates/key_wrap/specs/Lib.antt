pub mod Wrap
pub mod Example
