-- What the proofs of MacaqueV's C face share, and what its rows promise.
pub mod Words
pub mod Faces
pub mod Tabled
pub mod Promises
pub mod Sums
pub mod Kept
pub mod Room
pub mod Rescue
pub mod Turns
pub mod Broken
pub mod Causes
