pub mod Stands
pub mod Written
pub mod Trace
pub mod Walked
pub mod Laws
