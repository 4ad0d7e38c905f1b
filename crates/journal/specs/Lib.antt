pub mod Allowed
pub mod Check
pub mod CheckIsExact
pub mod OpenJob
pub mod Refusals
