pub mod BookText
pub mod WorkedPlans
