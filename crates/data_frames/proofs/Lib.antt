pub mod Spelling
pub mod Halves
pub mod Written
