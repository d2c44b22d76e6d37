pub mod Characters
pub mod Readers
pub mod Numbers
pub mod Lines
pub mod Spelling
pub mod LineStates
pub mod Fields
pub mod LineParts
