pub mod Bytes
pub mod ExampleSteps
pub mod Steps
pub mod Unwinding
