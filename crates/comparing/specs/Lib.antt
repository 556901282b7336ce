-- What the contracts of `comparing` cite.
pub mod File
pub mod Differences
pub mod Text
pub mod Compared
pub mod Calls
pub mod Printed
pub mod Inner
