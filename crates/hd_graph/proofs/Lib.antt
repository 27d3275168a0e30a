pub mod TextRows
pub mod GraphTexts
pub mod Pieces
pub mod KeptMarks
pub mod StateMarks
