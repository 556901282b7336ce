-- What only inner functions and proofs cite.
pub mod Lines
