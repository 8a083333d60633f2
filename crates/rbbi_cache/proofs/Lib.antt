pub mod Reached
pub mod Lists
pub mod Paths
pub mod Texts
pub mod RunFacts
pub mod LeftPart
pub mod Moving
pub mod Reanchor
pub mod RightPart
pub mod Cuts
pub mod Appended
pub mod Copied
pub mod AddedParts
pub mod Staying
pub mod PartsTruth
pub mod PartsList
pub mod Scanning
pub mod Scanned
pub mod Extending
pub mod Walks
pub mod Goes
pub mod Showing
mod Quieting
pub mod Floors
pub mod RunLists
pub mod Members
pub mod Nearer
pub mod Slots
pub mod Among
pub mod PutFirst
mod Apart
pub mod Ready
pub mod Begins
mod Filling
pub mod Backward
pub mod TriedBack
pub mod Keeping
pub mod Answering
mod ReadBack
