-- What the contracts of payout_walk cite.
pub mod Walk
