pub mod EntryLines
pub mod VerdictLaws
pub mod Inside
