-- Laws about the definitions of specs/, for proofs and for the crates above.
pub mod Solved
pub mod Load
pub mod Loops
pub mod Solving
