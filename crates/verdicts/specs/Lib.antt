pub mod Verdicts
pub mod Digits
