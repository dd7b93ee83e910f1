-- Laws about the definitions of specs/, for proofs and for the crates above.
pub mod Ahead
pub mod Rows
pub mod Relax
pub mod Filling
pub mod Keys
pub mod Tables
pub mod Entry
pub mod Questions
pub mod Small
