-- Parameter bytes: numbers in bytes, the forms, and the calls.
pub mod Bytes
pub mod Forms
pub mod Calls
