-- A walk that writes rows: f is what becomes of the row in a slot, and slots with the property P are counted.
use Rattle.hd_ages.proofs.Basics.{Addr, HOST_BLOCKS, Bool, Contains, Counts, DueRows, Ends, Gives, Handle, IsOn, IsSome, IsTable, Kind, List, ROWS, Rewrites, Slot, Some, Table, ap, arith, chain_of, clumps_to_come, due_clumps, due_slots, false, get, length, option_map, refl, row_at, slots_to_come, subst, sym, true, visits_of, ℕ, ◌+◌, ◌<◌, ◌≡◌, ◌≤◌, ◌*◌}
use Rattle.hd_ages.proofs.WalkSlots.{IsDueRow}
use mir.Val.{bool_byte}
use Rattle.hd_ages.proofs.WalkProgress.{IsUnderway, begins, all_to_come, few_to_come, row_due, row_live, row_past, fewer_left, goes_on, all_past, steps_at_end, rewritten, IsUpdated, updated_start, updated_more, updated_end}
use Rattle.hd_ages.proofs.WalkFrame.{rewrites_live, slots_same}
use Rattle.hd_ages.proofs.WalkCounts.{IsPastWith, counted_start, counted_end, counted_more, counted_else}

module _ (t : Table) (ages : List ℕ) (n : ℕ) (k : Kind) (f : ℕ → Handle Addr → Handle Addr)
    (P : ℕ → Type 0) where
  -- each visited row is as f makes it, and `count` of the visited slots have the property P
  pub record IsChanging (now : Table) (w : DueRows) (before steps count : ℕ) : Type 0 where
    pub under : IsUnderway t ages n k now w (before, steps)
    pub updated : IsUpdated f (slots_to_come now ages w) t now
    pub counted : Counts (IsPastWith P (slots_to_come now ages w)) count
    pub few : count + length (slots_to_come now ages w) ≤ HOST_BLOCKS * ROWS

  module _ (is : IsTable t) (w : DueRows) (before : ℕ) (on : IsOn t w)
      (slots : slots_to_come t ages w ≡ due_slots t ages n k)
      (clumps : clumps_to_come t ages w ≡ due_clumps ages n (chain_of t k)) where
    pub change_start :
        ((slot : ℕ) (h : Handle Addr) → row_at t slot ≡ Some h → (IsDueRow t ages n k slot → ⊥)
        → f slot h ≡ h)
        → ((slot : ℕ) → P slot → IsDueRow t ages n k slot) → IsChanging t w before before 0
    change_start others due = record {
      under = begins t ages n k is w slots before on clumps;
      updated = updated_start f (slots_to_come t ages w) t
          (λ slot h past is_stored.
          others slot h is_stored (λ r. past (all_to_come t ages n k is w slots slot r)));
      counted = counted_start P (slots_to_come t ages w)
          (λ slot r. all_to_come t ages n k is w slots slot (due slot r));
      few = let l = few_to_come t ages n k is w slots in omega arith;
    }

module _ {t : Table} {ages : List ℕ} {n : ℕ} {k : Kind} {f : ℕ → Handle Addr → Handle Addr}
    {P : ℕ → Type 0} where
  -- the walk writes a row
  module _ {now next : Table} {old new : DueRows} {slot : Slot} {before steps count : ℕ}
      (s : IsChanging t ages n k f P now old before steps count) (gives : Gives now ages old new slot)
      (r : Rewrites slot.0 (f slot.0 (row_due s.under gives).handle) now next) where
    due : IsDueRow t ages n k slot.0
    due = row_due s.under gives

    past : Contains (slots_to_come now ages new) slot.0 → ⊥
    past = row_past s.under gives

    live : IsSome (get now.rows slot.0)
    live = row_live s.under gives

    left : slots_to_come next ages new ≡ slots_to_come now ages new
    left =
        slots_same now next r.table ages
        (rewrites_live now next slot.0 (f slot.0 (row_due s.under gives).handle) live r) new

    pub change_smaller : length (slots_to_come next ages new) < length (slots_to_come now ages old)
    change_smaller =
        subst (λ xs. length xs < length (slots_to_come now ages old)) (sym left) (fewer_left s.under gives)

    module _ {after : ℕ} (on : IsOn now new)
        (counted : after + length (clumps_to_come now ages new)
        ≡ steps + length (clumps_to_come now ages old)) where
      more : (count' : ℕ) → count' ≤ count + 1 → Counts (IsPastWith P (slots_to_come now ages new)) count'
          → IsChanging t ages n k f P next new before after count'
      unfolding due
      more count' few counts = record {
        under = rewritten (goes_on s.under gives on counted) live r past;
        updated = subst (λ xs. IsUpdated f xs t next) (sym left)
            (updated_more f (slots_to_come now ages old) (slots_to_come now ages new) t now next slot.0
            due.handle gives.slots past s.updated due.is_stored r);
        counted = subst (λ xs. Counts (IsPastWith P xs) count') (sym left) counts;
        few = let e = ap length gives.slots in let l = ap length left in let f = s.few in omega arith;
      }

      -- one row more
      pub change_row : (yes : Bool) (one : ℕ) → (yes ≡ true → P slot.0) → (yes ≡ false → P slot.0 → ⊥)
          → one ≡ bool_byte yes → IsChanging t ages n k f P next new before after (count + one)
      change_row true one has hasnt e =
          more (count + one) (omega arith)
          (subst (λ c. Counts (IsPastWith P (slots_to_come now ages new)) c)
          (let c : count + 1 ≡ count + one = omega arith in c)
          (counted_more P (slots_to_come now ages old) (slots_to_come now ages new) slot.0 count gives.slots
          past (has refl) s.counted))
      change_row false one has hasnt e =
          more (count + one) (omega arith)
          (subst (λ c. Counts (IsPastWith P (slots_to_come now ages new)) c)
          (let c : count ≡ count + one = omega arith in c)
          (counted_else P (slots_to_come now ages old) (slots_to_come now ages new) slot.0 count gives.slots
          past (hasnt refl) s.counted))

  -- at the end of the walk
  module _ {now : Table} {old new : DueRows} {before steps count : ℕ}
      (s : IsChanging t ages n k f P now old before steps count) (ends : Ends now ages old new) where
    pub changed : (slot : ℕ) → row_at now slot ≡ option_map (f slot) (row_at t slot)
    changed = updated_end f t now (slots_to_come now ages old) (all_past s.under ends) s.updated

    pub changed_count : Counts P count
    changed_count = counted_end P (slots_to_come now ages old) count (all_past s.under ends) s.counted

    pub changed_steps : {after : ℕ}
        → after + length (clumps_to_come now ages new) ≡ steps + length (clumps_to_come now ages old)
        → after ≡ before + visits_of t ages n k
    changed_steps counted = steps_at_end s.under ends counted
