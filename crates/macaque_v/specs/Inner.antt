-- What only proofs and inner functions cite: a reader who believes the contracts and promises needs none of it.
pub mod Span
pub mod Total
pub mod Write
pub mod Noting
pub mod ReadRun
pub mod Read
pub mod Calls
