pub mod Above
pub mod Contexts
pub mod Devices
pub mod Downlinks
pub mod Elements
pub mod Holders
pub mod Own
pub mod Past
