pub mod AnswerLaws
pub mod BytesLaws
