pub mod Rising
pub mod RowValue
pub mod Rows
pub mod Union
