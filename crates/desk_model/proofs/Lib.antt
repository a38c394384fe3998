pub mod DeskExamples
