mod Sets
mod Sessions
pub mod Lapsing
pub mod Homes
mod JoinFrames
pub mod Causes
mod Order
pub mod Cases
pub mod Changes
pub mod Agreeing
pub mod Unread
pub mod AppKeys
