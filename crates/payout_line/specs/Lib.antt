-- What the contracts of payout_line cite.
pub mod Line
