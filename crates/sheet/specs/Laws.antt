-- Laws about the definitions of specs/, for proofs; nobody has to believe them.
pub mod Integer
pub mod Lag
pub mod Bytes
pub mod Rules
pub mod Sheet
pub mod Formed
pub mod Filled
pub mod Sum
