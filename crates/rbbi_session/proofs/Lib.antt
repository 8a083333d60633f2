pub mod Places
pub mod Rises
pub mod Reaching
pub mod Answering
pub mod Stepping
mod Asked
pub mod Stretching
pub mod UnitCursors
pub mod UnitAnswering
pub mod UnitEditing
pub mod Recalled
pub mod Walking
mod SessionWalks
