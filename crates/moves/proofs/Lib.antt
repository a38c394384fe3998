pub mod MoveLaws
pub mod LoadLaws
pub mod ReadLaws
