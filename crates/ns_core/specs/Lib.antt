pub mod Speakers
pub mod Heard
pub mod Own
pub mod Rules
pub mod Sessions
pub mod Payloads
pub mod Replies
