pub mod Figures
pub mod Tally
