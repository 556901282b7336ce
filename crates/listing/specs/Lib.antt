-- What the contracts of `listing` cite.
pub mod Text
pub mod Rows
pub mod Listing
pub mod Calls
pub mod Printed
pub mod Inner
