-- What the contracts of `reader` cite.
pub mod Calls
pub mod Run
pub mod Broken
