-- What the code keeps and builds while it reads a rule file, and how it stands to the definitions. No public clause rests on it.
pub mod SetValues
pub mod Faults
pub mod Files
pub mod Countings
pub mod Summaries
pub mod Contexts
pub mod Switchings
pub mod RuleSums
pub mod Readings
pub mod Soundness
pub mod OwnLeaves
pub mod Builders
pub mod RulesSoFar
pub mod Questions
pub mod ClassValues
pub mod Covered
pub mod LiteralRuns
