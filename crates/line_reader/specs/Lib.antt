pub mod Lines
pub mod Ahead
pub mod Hearing
pub mod Held
