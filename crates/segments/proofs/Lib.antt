-- Segments: counted bytes, and the residuals' stream, which is made aside.
pub mod Laws
pub mod Aside
pub mod Causes
