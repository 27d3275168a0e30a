pub mod Registers
mod CallPool
mod EmptyRegisters
mod Refused
mod LiveEntries
mod CallHost
mod WholeHost
mod FirstHost
mod LiveHandles
mod HandleRefused
mod ValueCalls
mod WiderStep
mod WiderAges
mod WiderCall
mod PaddedEntries
mod RoomOfPools
mod GrownParts
mod GrownTable
mod GrownCalls
mod GrownWide
mod GrownFrees
mod GrownMakes
mod GrownAdds
mod ReplyForms
mod SlotOfHandle
mod Trimmed
mod MadeHandle
mod AddedEntry
mod WideCalls
mod ShownLocals
mod SetEntry
mod HandleKinds
pub mod SameHost
mod OutOfMemory
mod FreedHandle
mod NextHandle
pub mod PairTrimmed
pub mod TrimTurns
mod TrimRows
pub mod OtherCallers
mod RowOfOne
pub mod CallTurns
pub mod SoundTurns
