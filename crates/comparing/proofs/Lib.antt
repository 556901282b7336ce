-- The theorems about the calls, and the laws that the proofs of `comparing` share.
pub mod Promises
pub mod Walking
pub mod Laws
pub mod Lines
pub mod Causes
