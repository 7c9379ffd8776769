pub mod Roles
pub mod Keys
pub mod Fields
