pub mod JournalKeepers
pub mod JournalLaws
pub mod Keeper
pub mod Memory
pub mod MemoryKeepers
pub mod MemoryLaws
