-- What the program on lines keeps of the characters before a place.
pub mod Lefts
