-- What only proofs and inner functions cite: a reader who believes the contracts and promises needs none of it.
pub mod Chunk
pub mod Pending
