-- What the proofs of this crate and of those over it share.
pub mod Rooms
pub mod Runs
pub mod Parts
pub mod Wins
pub mod TwoValues
pub mod Costs
pub mod Chosen
pub mod Accepted
pub mod FairChoice
pub mod Fair
pub mod Tied
pub mod Steps
pub mod Causes
