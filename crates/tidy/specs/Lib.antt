pub mod Encode
pub mod Tidy
pub mod TidyExample
pub mod Refusals
