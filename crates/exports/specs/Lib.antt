-- How the calls cross the C face.
pub mod Face
pub mod Words
pub mod Inner
