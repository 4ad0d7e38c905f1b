pub mod Line
pub mod Sheet
pub mod Totals
pub mod SheetCounts
pub mod SheetExamples
