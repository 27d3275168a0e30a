pub mod StoreWords
pub mod EntryMaps
pub mod IdentityReadings
mod NameAgreement
mod EntryReadings
mod EntrySweep
mod StoreAdd
mod RegisterRoots
mod HeapCallReadings
mod StoreWrite
mod Barrier
mod RootAccess
mod EntrySums
mod StateCounts
mod StoreRows
mod EntryWrites
mod SlotHandle
mod StoreNew
mod NewBlockSlot
mod MadeHandleAge
mod StoreOpen
mod QueueTake
mod SceneReading
mod ChainVisits
mod StoreCollect
mod AnchorLists
mod PinnedAddress
mod AddressSteps
pub mod StateHeap
pub mod RootIdentities
mod EntrySearch
mod WeakRoom
mod HeldRoom
pub mod SoundCalls
pub mod OfferAddresses
mod HeldEntries
mod QueueIndexes
mod ValueCalls
mod SlotCalls
mod PartsCommands
mod LoadedParts
pub mod FilledObjects
pub mod ClearedRegisters
mod ClearedRoots
mod HostedCalls
mod NewFilled
mod StateSizes
mod FreeSlots
pub mod SpareBlocks
mod LargerTable
