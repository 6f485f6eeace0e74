-- The cases, computed.
pub mod CasesStart
pub mod CasesNumbers
pub mod CasesLife
pub mod CasesAnswers
pub mod CasesAlarms
pub mod CasesSubscriptions
pub mod CasesCommands
pub mod CasesIncluded
pub mod CasesEditions
pub mod CasesPool
pub mod CasesBox
pub mod CasesLinks
pub mod Cases
