pub mod Kind
pub mod Link
pub mod Test
pub mod Loop
pub mod Reads
pub mod Laws
