-- What the contracts of text_event cite.
pub mod Event
