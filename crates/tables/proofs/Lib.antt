pub mod TreeRows
pub mod Pushes
pub mod RowAnswers
