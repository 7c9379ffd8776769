pub mod Behinds
pub mod Format
pub mod Gates
pub mod Journal
pub mod Journals
pub mod Keeps
pub mod Walked
pub mod Windows
