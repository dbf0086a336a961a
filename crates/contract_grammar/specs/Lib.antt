-- The definitions of this crate.
pub mod Lexer
pub mod TokenLists
pub mod Tree
pub mod Held
pub mod Grammar
pub mod Expressions
pub mod Modes
pub mod Limits
pub mod Faults
pub mod Reading
pub mod Laws
