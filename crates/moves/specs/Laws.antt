-- Laws about the definitions of specs/, for proofs and for the crates above.
pub mod Reading
pub mod Writing
pub mod Written
pub mod Questions
pub mod Lags
pub mod Moved
pub mod Lattice
pub mod Sheets
pub mod Theorems
