pub mod CountUp
pub mod SlotLaws
pub mod WireLaws
pub mod KeptLaws
pub mod EncodedTable
pub mod EncodeLaws
pub mod TidyLaws
pub mod Refusals
