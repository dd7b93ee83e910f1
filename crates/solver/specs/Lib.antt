pub mod System
pub mod Walk
pub mod State
pub mod Laws
