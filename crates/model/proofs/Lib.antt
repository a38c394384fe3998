pub mod Examples
pub mod RuleExamples
pub mod WordExamples
pub mod SpreadExamples
pub mod Tried
