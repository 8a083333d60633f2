-- The single steps of the lexer. No public clause rests on them.
pub mod Errors
pub mod Steps
