pub mod Contexts
pub mod Queue
pub mod Slots
pub mod Sound
