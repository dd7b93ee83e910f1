-- The test of a loop computes what a valid loop is: it rests on every field of that promise.
pub mod Tested
