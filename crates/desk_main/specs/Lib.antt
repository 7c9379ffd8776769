pub mod Files
pub mod Help
