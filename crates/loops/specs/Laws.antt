-- Laws about the definitions of specs/, for proofs and for the crates above.
pub mod Words
pub mod Links
pub mod Follow
pub mod Chain
pub mod Question
pub mod Out
