pub mod Names
pub mod Changes
pub mod Asks
pub mod Entries
pub mod Reads
