pub mod Lags
pub mod Move
pub mod Write
pub mod Laws
