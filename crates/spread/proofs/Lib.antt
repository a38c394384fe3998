pub mod LoopLaws
pub mod StepLaws
pub mod AnswerLaws
