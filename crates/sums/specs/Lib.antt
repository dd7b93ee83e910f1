pub mod Lines
pub mod Test
pub mod Laws
