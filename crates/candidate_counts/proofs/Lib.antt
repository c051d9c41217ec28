-- What the definitions of specs/ imply.
pub mod Raise
pub mod Leading
pub mod Handed
pub mod Take
pub mod LeadingLaws
