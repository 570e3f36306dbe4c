pub mod FormLaws
pub mod JournalLaws
pub mod RecordLaws
pub mod ConvertLaws
pub mod ExampleLaws
