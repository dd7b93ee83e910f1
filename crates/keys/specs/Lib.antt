pub mod Keys
pub mod Filling
pub mod Ordered
pub mod Laws
