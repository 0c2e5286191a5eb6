pub mod Number
pub mod Words
pub mod Arguments
pub mod Answers
pub mod Verbs
pub mod Commands
pub mod Script
pub mod Order
