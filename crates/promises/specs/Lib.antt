pub mod Rules
pub mod Lags
pub mod Questions
pub mod Laws
