-- The theorem about the calls, and the laws that the proofs of `reader` share.
pub mod Allowed
pub mod Promises
pub mod Last
pub mod Causes
pub mod Broken
