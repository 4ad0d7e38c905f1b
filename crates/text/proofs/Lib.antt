pub mod TextLaws
pub mod PageLaws
