-- Laws about the definitions of specs/, for proofs and for the crates above.
pub mod Sum
pub mod Entry
pub mod Lanes
pub mod Stand
pub mod Sweep
pub mod Order
