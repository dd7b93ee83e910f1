-- Laws about the definitions of specs/, for proofs and for the crates above.
pub mod Quick
