-- Laws that rest on what the definitions of specs/ say of delays.
pub mod Delays
pub mod Way
pub mod Heights
