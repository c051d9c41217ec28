-- What the definitions imply, by subject.
pub mod Open
pub mod Cases
pub mod Reading
pub mod Number
pub mod Form
pub mod Text
pub mod Texts
pub mod Lines
pub mod Onward
pub mod Automaton
pub mod Sets
