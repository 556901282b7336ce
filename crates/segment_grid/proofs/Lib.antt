-- The theorems about the calls, and the laws that the proofs of `segment_grid` share.
pub mod Promises
pub mod Written
pub mod Owned
pub mod Counted
pub mod Placed
pub mod Causes
