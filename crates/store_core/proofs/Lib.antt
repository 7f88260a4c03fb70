pub mod ListLaws
pub mod ChainLaws
pub mod Keeping
pub mod StepLaws
pub mod TableLaws
pub mod Settling
pub mod StartLaws
pub mod RunLaws
pub mod CopyLaws
pub mod WorkedLaws
mod FindLaws
mod NeededLaws
mod CallLaws
mod MakingLaws
