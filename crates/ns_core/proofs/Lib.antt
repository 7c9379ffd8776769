pub mod Payloads
mod Lapsing
mod Rules
pub mod Cases
pub mod Unread
