pub mod Places
pub mod Indexes
pub mod Listed
pub mod Documents
pub mod Belonging
pub mod Distinct
pub mod Walking
pub mod Soundness
