-- The theorems about the calls with a place table, and the laws that the proofs of `place_table` share.
pub mod Promises
pub mod Sums
pub mod Comparing
pub mod Anew
pub mod Ranging
pub mod Beside
pub mod Causes
