pub mod Decimals
pub mod Parting
pub mod LineNumbers
pub mod LineForms
pub mod Joining
pub mod LineSpelling
