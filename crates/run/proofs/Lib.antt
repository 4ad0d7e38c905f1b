pub mod FitsLaws
pub mod JournalLaws
pub mod Projection
pub mod ScanLaws
pub mod RunInvariant
pub mod RunExamples
pub mod ByBlocks
