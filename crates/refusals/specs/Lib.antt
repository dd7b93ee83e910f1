pub mod Load
pub mod Solving
pub mod Laws
