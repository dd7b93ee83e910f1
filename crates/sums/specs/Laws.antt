-- The computed test is sound. (That every line of the table passes it is proofs/Table.)

pub mod Finite
pub mod Sound
pub mod Entries
pub mod Lags
pub mod Loops
pub mod Over
pub mod Moves
pub mod Line
