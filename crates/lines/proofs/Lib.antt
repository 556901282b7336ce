-- What the proofs of this crate and of those over it share.
pub mod Exact
pub mod Ordered
