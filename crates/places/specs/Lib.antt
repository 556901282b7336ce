-- The place table beside a coded stream: its entries, the check and a range; and its words in lent memory, what its calls answer, rescue with it, and the statements of their promises.
pub mod Table
pub mod Calls
pub mod Rescue
