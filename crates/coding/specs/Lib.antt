-- What the contracts of `coding` cite.
pub mod Keep
pub mod Inner
