pub mod KeyLaws
pub mod ChangeLaws
