-- How parameter bytes and segments cross the C face.
pub mod Calls
