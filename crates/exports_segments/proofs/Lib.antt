-- What the C face of parameter bytes and segments says of a residual stream that breaks off, and the order of its causes.
pub mod Broken
pub mod Causes
