pub mod PassingLaws
pub mod ProgressLaws
pub mod RaiseLaws
pub mod HandLaws
pub mod RuleLaws
pub mod StepLaws
