-- What the contracts of payout cite.
pub mod Counted
