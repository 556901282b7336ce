-- What the proofs of the place table's C face share, and what its rows promise.
pub mod Told
pub mod Promises
pub mod Sums
pub mod Rescue
pub mod Causes
