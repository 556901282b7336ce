-- What the proofs of this crate and of those over it share.
pub mod Allowed
pub mod Runs
pub mod Order
pub mod Apart
pub mod Slopes
pub mod Points
pub mod Causes
