-- Rows of positions, automata of sets of positions, partitions of their rows, and least tables, as code and proofs here see them.
pub mod Automata
pub mod PositionRows
pub mod PositionAutomata
pub mod Determinizing
pub mod LastWords
pub mod MarkedRows
pub mod Partitions
pub mod Ranks
pub mod Numbers
pub mod LeastTables
pub mod Categories
pub mod KeptRows
