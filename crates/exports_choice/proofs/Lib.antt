-- What the proofs of the choice's C face share.
pub mod Back
pub mod Stands
pub mod Short
pub mod Fair
