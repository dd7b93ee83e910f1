-- T1, T2, T5, T10 and T13 on bytes: whatever answers keep the promises, these hold of them.
pub mod Theorems
pub mod Delivered
pub mod Routes
pub mod Search
