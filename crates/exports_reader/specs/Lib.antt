-- What the contracts of `exports_reader` cite.
pub mod Row
pub mod Calls
pub mod Run
pub mod Broken
