pub mod BoundLaws
pub mod ClashLaws
pub mod FieldRules
pub mod PassLaws
pub mod SkipLaws
pub mod UndoLaws
