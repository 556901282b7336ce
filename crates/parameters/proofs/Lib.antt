-- Parameter bytes: laws on numbers in bytes, what each form gives when it is read, and that parameters read back.
pub mod Bytes
pub mod Read
pub mod ReadBack
pub mod Causes
