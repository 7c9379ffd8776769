pub mod Forms
pub mod Blocks
pub mod AcceptFacts
pub mod Bytes
pub mod Opening
