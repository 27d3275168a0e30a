-- Faults of reading: their status, and whether the source failed.
use Rattle.hd_run.proofs.Basics.{BadLine, CauseOfFault, Fault, List, NoMemory, OverSize, Rose, SourceView, Unread, Usage, fault_status, refl, subst, ℕ, ◌≡◌, ◌≢◌}

-- the status of a fault is not that of a whole run
pub no_whole : (f : Fault) → fault_status f ≢ 0
no_whole NoMemory is = cc
no_whole f is = cc

module _ (IsAtFault : List ℕ → ℕ → Type 0) (old new : SourceView) where
  pub unread_rose : CauseOfFault IsAtFault old new Unread → Rose old.faults new.faults
  unread_rose broke = subst (λ n. Rose n new.faults) broke.gave.gave.unfailed broke.failed.rose

  -- but for a failed read, no fault is passed over
  pub unfailed : (f : Fault) → CauseOfFault IsAtFault old new f → fault_status f ≢ 4
      → new.faults ≡ old.faults
  unfailed Usage cause ne = absurd cause
  unfailed Unread cause ne = absurd (ne refl)
  unfailed OverSize cause ne = cause.gave.unfailed
  unfailed (BadLine k) (bytes, read, fault) ne = read.all.gave.unfailed
  unfailed NoMemory cause ne = cause.gave.unfailed
