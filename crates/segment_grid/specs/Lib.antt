-- A segment as it is read: its parts, and what the calls on it answer.
pub mod Segment
pub mod Calls
