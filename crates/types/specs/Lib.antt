pub mod Builder
pub mod Choice
pub mod Fair
pub mod Calls
pub mod Run
