-- Segments: what is stored of one, and the call that writes it.
pub mod Segment
pub mod Calls
pub mod Inner
