-- Texts of brackets and numbers, as document 01 has them ('Text and program').
pub mod Bytes
pub mod Number
pub mod Form
pub mod Read
pub mod Texts
