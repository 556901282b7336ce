-- What the proofs of the C face share.
pub mod Rows
pub mod Numbers
pub mod Small
pub mod Signed
pub mod Back
pub mod Stands
pub mod Causes
pub mod Truth
pub mod Front
