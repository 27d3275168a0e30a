pub mod Basics
pub mod CallerOrder
pub mod TurnSteps
pub mod CallerParts
mod OptionLimits
mod MatchRequests
mod WordOutcome
mod PlaySteps
mod JournalSums
mod SharedRun
mod CallClaims
mod AuditInputs
mod AuditClaims
pub mod ReadFaults
pub mod ReportedTexts
mod RunEndings
mod LoadClaims
mod WorkCauses
mod ThreadClaims
mod RootLines
mod StillEnds
mod JudgedRuns
