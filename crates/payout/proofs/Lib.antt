-- What the audit of two texts implies: values clamped to 32 bits are judged as they were (`Clamped`), the answer by what the texts come to (`Texts`) and by what the code came to (`Outcome`), and that its number fits (`Small`).
pub mod Clamped
pub mod Texts
pub mod Outcome
pub mod Small
