pub mod Order
pub mod Row
pub mod Back
pub mod Keys
pub mod Costed
pub mod Questions
pub mod Laws
