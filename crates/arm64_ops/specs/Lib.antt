pub mod ConditionLaws
pub mod OpLaws
