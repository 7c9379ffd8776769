pub mod Keys
pub mod Forms
pub mod Steps
pub mod Index
pub mod Rows
pub mod Walk
pub mod LookUps
pub mod Sound
