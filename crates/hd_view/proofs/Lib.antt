pub mod NamedLines
pub mod StatedLines
pub mod BegunWords
pub mod RangeSets
pub mod AcceptedSets
pub mod DueCommands
pub mod SlotSets
pub mod BlockSets
pub mod AddressSets
pub mod PrintedLines
pub mod WrongLines
pub mod CauseFacts
pub mod ReplyWords
pub mod DueCauses
pub mod RowCauses
pub mod OrderCauses
pub mod WhyClaims
mod LinesBefore
mod ShownClaims
