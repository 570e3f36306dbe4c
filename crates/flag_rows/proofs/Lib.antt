pub mod MarksLaws
pub mod ShiftRowsLaws
pub mod DivideRowsLaws
pub mod RowsLaws
pub mod FormulaLaws
