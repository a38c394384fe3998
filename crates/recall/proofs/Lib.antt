pub mod RecallLaws
pub mod KeyLaws
