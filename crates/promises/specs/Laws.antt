-- Laws about the definitions of specs/, for proofs and for the crates above.
pub mod Rules
pub mod Lags
pub mod Asked
pub mod Period
pub mod Done
