pub mod LineLaws
pub mod SheetLaws
pub mod TotalsLaws
pub mod SheetCounts
pub mod SheetExamples
