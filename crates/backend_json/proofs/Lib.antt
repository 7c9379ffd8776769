pub mod Bodies
pub mod Seen
pub mod Digits
pub mod Objects
pub mod Order
pub mod KeysWritten
