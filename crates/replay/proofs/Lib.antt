pub mod Moves
pub mod Frames
pub mod OneScan
pub mod OneEvent
pub mod JournalBytes
pub mod Written
