pub mod TermLaws
pub mod HeadLaws
