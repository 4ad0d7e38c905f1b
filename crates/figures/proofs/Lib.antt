pub mod TallyLaws
pub mod FigureLaws
