pub mod Flips
pub mod Members
pub mod Rising
pub mod Merges
pub mod Clashes
pub mod JoiningLaw
pub mod Writing
pub mod Steps
