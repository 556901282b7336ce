-- The laws that the proofs of `coding` share, and those that a writer and a reader cite.
pub mod Keeping
pub mod Greatest
pub mod Nearer
pub mod Narrower
pub mod Clearing
pub mod Coding
pub mod Words
pub mod Repeats
pub mod Decoding
