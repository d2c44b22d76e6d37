pub mod Reading
pub mod Trees
