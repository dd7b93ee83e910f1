pub mod Lent
pub mod Given
pub mod Laws
