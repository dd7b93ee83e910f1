-- Laws about the definitions of specs/, for proofs and for the crates above.
pub mod Walk
pub mod Sweep
pub mod State
pub mod Begun
