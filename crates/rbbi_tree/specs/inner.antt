-- How the parser works: a pushdown machine, and what its states stand for. No public clause rests on it.
pub mod Sets
pub mod Statements
pub mod SetStates
pub mod States
