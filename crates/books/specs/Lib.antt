pub mod Book
pub mod Promise
pub mod BookLaw
pub mod Numbers
pub mod Packed
pub mod Chained
