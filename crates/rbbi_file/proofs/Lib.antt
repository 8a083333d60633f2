pub mod Sizes
pub mod Valid
pub mod OneTable
pub mod Ends
pub mod Stands
pub mod WholeFiles
pub mod OneAnswer
