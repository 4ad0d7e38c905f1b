pub mod CheckIsExact
pub mod LoopLaws
pub mod AnswerLaws
pub mod ByBlocks
pub mod Refusals
