pub mod Buffer
pub mod RecordLayout
pub mod EntryLayout
pub mod ReportLayout
pub mod EventLayout
