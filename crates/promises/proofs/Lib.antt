-- Theorems that rest on each field of what is promised.
pub mod Agrees
pub mod Entries
