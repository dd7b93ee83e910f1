-- Laws about the definitions of specs/, for proofs and for the crates above.
pub mod System
pub mod Chain
pub mod Column
pub mod Push
pub mod Round
pub mod Reach
