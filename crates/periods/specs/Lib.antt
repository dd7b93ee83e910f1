pub mod Quick
pub mod Laws
