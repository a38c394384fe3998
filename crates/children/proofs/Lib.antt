pub mod ChildLaws
