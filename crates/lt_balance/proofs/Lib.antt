pub mod ColumnLaws
pub mod EntryLaws
pub mod PlanLaws
pub mod SendingLaws
pub mod TableLaws
