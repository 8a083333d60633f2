pub mod Characters
pub mod Splices
pub mod CutLemmas
pub mod Lines
pub mod LineValues
pub mod Pushed
pub mod Appended
pub mod MilestoneLemmas
pub mod Even
mod Digits
mod AsciiTexts
mod Nearby
pub mod Singles
