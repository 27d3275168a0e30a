-- The words of laws that most proofs of this crate cite, passed on from one place. Declares nothing.
pub use Rattle.hd_laws.specs.CollectionLaws.{AgesHideNothing, CollectionsExist, FareAlike, FareApart, FinalizationPartsWeakHandles, HasCollection, IsWeakPair, WeakHandlesFareAlike}
pub use Rattle.hd_laws.specs.UserLaws.{EveryCommandHasAStep, GenReturnsTheGeneration, GenerationIsReadBack, GivesGeneration, GivesRegistration, HasWay, HeapIsWithinItsLimit, IsCollection, IsDoneTo, JoinsBy, JoinsOnce, NewIsRefusedWhereFull, NewReturns, PinnedAddressIsReadBack, PinsBy, AddressIsReturnedAgain, RegistrationIsKept, RunsAreNeverStuck, Unpins, WritesRegistration, by_gen, by_joining, by_reregister, by_suppress, joins, reregisters, suppresses}
pub use Rattle.hd_laws.specs.WeakLaws.{AddIsRefusedWhereAttached, FindReturnsWhatIsAttached, IsOnKey, NullKeysAreRefused, RemoveReturnsWhetherAttached, TextsLeaveTheWeakTableOut, WeakSlotsAreNotLive, WeakSlotsStayHeld, adds, attached, attached_by, finds, removes}
