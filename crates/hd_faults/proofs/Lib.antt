pub mod PlacedWords
pub mod CauseSteps
pub mod CauseShapes
pub mod HnewReadings
pub mod CauseReadings
pub mod TextParts
pub mod ScriptLines
