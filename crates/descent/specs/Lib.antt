pub mod System
pub mod State
pub mod Chain
pub mod Least
pub mod Laws
