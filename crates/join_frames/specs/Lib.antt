pub mod Mics
pub mod JoinForms
pub mod Accepts
