-- The theorem about the calls, and the laws that the proofs of `listing` share.
pub mod Promises
pub mod Putting
pub mod Finding
pub mod Causes
