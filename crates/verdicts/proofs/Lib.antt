pub mod LineParts
pub mod DigitBytes
