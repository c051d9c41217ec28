-- A word that stands in a text, and the steps of the automaton by which a run is read.
pub mod Words
pub mod Steps
pub mod EventLaws
