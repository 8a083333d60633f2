pub mod SettingLemmas
pub mod Forms
pub mod Fitting
pub mod SourceLemmas
pub mod Reading
pub mod Delivering
pub mod Positions
