-- The theorems of the place table. `Promises` restates the main ones in one place.
pub mod Promises
-- entries, their words, and the table beside a stream
pub mod Entries
pub mod Words
pub mod Made
-- the check, a range with any table and with a checked one, any accepted stream
pub mod Check
pub mod Any
pub mod Range
pub mod Resume
-- what the calls answer and leave
pub mod Calls
pub mod ReadCalls
pub mod RescueCalls
-- for the proofs of code: one value more
pub mod Steps
