-- What the reader's rows promise, and the laws that the proofs of `exports_reader` share.
pub mod Faces
pub mod Promises
pub mod Broken
pub mod Causes
