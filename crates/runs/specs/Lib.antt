pub mod Record
pub mod Run
pub mod AnyRecord
pub mod SessionRecord
pub mod Step
pub mod Divided
pub mod Out
