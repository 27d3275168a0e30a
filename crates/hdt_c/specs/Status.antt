-- The statuses of `hdt.h`.
use Rattle.std.specs.Prelude.{ℕ}
use Rattle.hd_host.specs.declared.fault.Fault.{Fault}
use Rattle.hd_host.specs.declared.fault.Fault.TheVariants as fault
use Rattle.hdt_c.specs.declared.status.TheConstants.{NO_MEMORY, EXHAUSTED, STALE, WRONG_KIND, COUNT_ZERO, NULL, NO_FIELD, PRESENT, HEAP_FULL, TABLE_FULL}

-- that of a fault. No two faults have one.
abbrev pub status_of : Fault → ℕ
status_of fault.Memory = NO_MEMORY
status_of fault.Exhausted = EXHAUSTED
status_of fault.Stale = STALE
status_of fault.WrongKind = WRONG_KIND
status_of fault.CountZero = COUNT_ZERO
status_of fault.Null = NULL
status_of fault.NoField = NO_FIELD
status_of fault.Present = PRESENT
status_of (fault.HeapFull used size) = HEAP_FULL
status_of (fault.TableFull given) = TABLE_FULL
