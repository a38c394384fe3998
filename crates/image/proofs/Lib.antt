pub mod WalkLaws
pub mod ClauseLaws
