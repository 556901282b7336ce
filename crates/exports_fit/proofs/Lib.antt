-- What the proofs of the C face of the models share.
pub mod Back
pub mod Held
pub mod Stands
pub mod Answers
pub mod Short
