-- What a root task promotes and pins along a walk.
use Rattle.hd_scan.proofs.Basics.{Addr, HOST_BLOCKS, Bool, Contains, Counts, DueRows, Ends, Gives, Grows, Handle, HasSoundAges, IsDueRow, IsOn, IsPinnedBy, IsRootAt, IsSettled, IsTable, IsTaken, IsTargetBy, IsTargetOf, IsUnderway, IsYoungField, Leads, List, Objects, PinsBy, ROWS, RootPass, Some, Table, Task, WholeRoots, all_past, all_to_come, and_from, and_parts, ap, arith, begins, both_ways, cases_Bool, cases_eq, chain_of, clumps_to_come, due_clumps, due_slots, false, few_to_come, generation_at, goes_on, grows_like, grows_none, grows_on, inl, inr, is_due, is_some, length, live_at, pins, refl, row_at, row_due, row_past, row_same, same_Some, slots_to_come, subst, sym, takes, task_kind, true, undue_target, view_at, ℕ, ⊎_elim, ◌&&◌, ◌+◌, ◌<◌, ◌∙◌, ◌≡◌, ◌≢◌, ◌≤◌, ◌⊎◌, ◌*◌}
use mir.Val.{bool_byte}
use Rattle.hd_model.specs.declared.data.Slot.{Slot}
use Rattle.hd_model.proofs.MapEntries.{some_value}
use Rattle.hd_ages.proofs.WalkCounts.{IsPastWith, counted_start, counted_end, counted_more, counted_else, still_past, past_before}
use Rattle.hd_scan.proofs.HandleClear.{taken_kind}

module _ (o : Objects Addr) (t : Table) (ages : List ℕ) (n : ℕ) (task : Task) (p0 pin0 : Addr → Bool) where
  -- the target of a handle that was visited, and of one that pins
  abbrev IsPastTaken : List ℕ → Addr → Type 0
  IsPastTaken left x = (r : IsTaken (row_at t) ages n task x) × (Contains left r.slot → ⊥)

  abbrev IsPastPinned : List ℕ → Addr → Type 0
  IsPastPinned left x = (r : IsPinnedBy (row_at t) ages n task x) × (Contains left r.taken.slot → ⊥)

  -- along the walk of a root task: what was visited is promoted and pinned, and nothing else
  pub record IsRooting (w : DueRows) (before steps held : ℕ) (p pin : Addr → Bool) : Type 0 where
    pub under : IsUnderway t ages n (task_kind task) t w (before, steps)
    pub promotes : Grows (IsYoungField o n) (IsPastTaken (slots_to_come t ages w)) p0 p
    pub pinned : (x : Addr) → pin0 x ≡ true → pin x ≡ true
    pub pin_joins : (x : Addr) → IsPastPinned (slots_to_come t ages w) x → pin x ≡ true
    pub pin_only : (x : Addr) → pin x ≡ true → (pin0 x ≡ true) ⊎ IsPinnedBy (row_at t) ages n task x
    pub counted : Counts (IsPastWith (IsRootAt (row_at t) ages n task) (slots_to_come t ages w)) held
    pub few : held + length (slots_to_come t ages w) ≤ HOST_BLOCKS * ROWS

module _ {t : Table} {ages : List ℕ} {n : ℕ} {task : Task} where
  taken_due : (x : Addr) (r : IsTaken (row_at t) ages n task x) → IsDueRow t ages n (task_kind task) r.slot
  taken_due x r = record {
    handle = r.handle;
    is_stored = r.is_stored;
    of_kind = taken_kind task r.handle r.takes;
    due = r.due;
  }

  root_due : (slot : ℕ) → IsRootAt (row_at t) ages n task slot → IsDueRow t ages n (task_kind task) slot
  root_due slot r = record {
    handle = r.handle;
    is_stored = r.is_stored;
    of_kind = taken_kind task r.handle r.takes;
    due = r.due;
  }

module _ {o : Objects Addr} {t : Table} {ages : List ℕ} {n : ℕ} {task : Task} {p0 pin0 : Addr → Bool} where
  module _ (is : IsTable t) {w : DueRows} {before : ℕ} (on : IsOn t w)
      (slots : slots_to_come t ages w ≡ due_slots t ages n (task_kind task))
      (clumps : clumps_to_come t ages w ≡ due_clumps ages n (chain_of t (task_kind task))) where
    pub root_start : IsRooting o t ages n task p0 pin0 w before before 0 p0 pin0
    root_start =
        let all = all_to_come t ages n (task_kind task) is w slots in
        record {
          under = begins t ages n (task_kind task) is w slots before on clumps;
          promotes =
              grows_none (IsYoungField o n) (IsPastTaken o t ages n task p0 pin0 (slots_to_come t ages w)) p0
              (λ x s. s.1 (all s.0.slot (taken_due x s.0)));
          pinned = λ x h. h;
          pin_joins = λ x s. absurd (s.1 (all s.0.taken.slot (taken_due x s.0.taken)));
          pin_only = λ x h. inl h;
          counted = counted_start (IsRootAt (row_at t) ages n task) (slots_to_come t ages w)
              (λ slot r. all slot (root_due slot r));
          few = let l = few_to_come t ages n (task_kind task) is w slots in omega arith;
        }

  module _ {old new : DueRows} {slot : Slot} {before steps held : ℕ} {p pin : Addr → Bool}
      (s : IsRooting o t ages n task p0 pin0 old before steps held p pin)
      (gives : Gives t ages old new slot) where
    due : IsDueRow t ages n (task_kind task) slot.0
    due = row_due s.under gives

    same : live_at t slot.0 ≡ due.handle
    unfolding due
    same = row_same s.under gives

    past : Contains (slots_to_come t ages new) slot.0 → ⊥
    past = row_past s.under gives

    before_or : (x : ℕ) → x ≢ slot.0 → (Contains (slots_to_come t ages new) x → ⊥)
        → Contains (slots_to_come t ages old) x → ⊥
    before_or x ne gone =
        past_before (IsRootAt (row_at t) ages n task) (slots_to_come t ages old) (slots_to_come t ages new)
        slot.0 held gives.slots past x ne gone

    still : (x : ℕ) → (Contains (slots_to_come t ages old) x → ⊥) → Contains (slots_to_come t ages new) x → ⊥
    still x gone =
        still_past (IsRootAt (row_at t) ages n task) (slots_to_come t ages old) (slots_to_come t ages new)
        slot.0 held gives.slots past x gone

    -- a handle in this slot is the one that was looked at
    it : (h : Handle Addr) (k : ℕ) → row_at t k ≡ Some h → k ≡ slot.0 → h ≡ live_at t slot.0
    it h k is_stored e =
        same_Some h (live_at t slot.0)
        (sym is_stored ∙ ap (row_at t) e ∙ due.is_stored ∙ ap (λ g. Some g) (sym same))

    abbrev taken_here : (x : Addr) → IsTargetBy task (live_at t slot.0) x → IsTaken (row_at t) ages n task x
    taken_here x b = record {
      slot = slot.0;
      handle = due.handle;
      is_stored = due.is_stored;
      due = due.due;
      takes = ap (takes task) (sym same) ∙ b.takes;
      target = ap (λ (h : Handle Addr). h.target) (sym same) ∙ b.target;
    }

    target_here : (x : Addr) (r : IsTaken (row_at t) ages n task x) → r.slot ≡ slot.0
        → IsTargetBy task (live_at t slot.0) x
    target_here x r e =
        let h = it r.handle r.slot r.is_stored e in
        record {
          takes = ap (takes task) (sym h) ∙ r.takes;
          target = ap (λ (h : Handle Addr). h.target) (sym h) ∙ r.target;
        }

    promotes : {q : Addr → Bool} → Grows (IsYoungField o n) (IsTargetBy task (live_at t slot.0)) p q
        → Grows (IsYoungField o n) (IsPastTaken o t ages n task p0 pin0 (slots_to_come t ages new)) p0 q
    promotes {q} g =
        grows_like (IsYoungField o n)
        (λ x. IsPastTaken o t ages n task p0 pin0 (slots_to_come t ages old) x
        ⊎ IsTargetBy task (live_at t slot.0) x)
        (IsPastTaken o t ages n task p0 pin0 (slots_to_come t ages new)) p0 q
        (λ x. ⊎_elim (λ r. (r.0, still r.0.slot r.1)) (λ b. (taken_here x b, past)))
        (λ x r. ⊎_elim (λ e. inr (target_here x r.0 e)) (λ ne. inl (r.0, before_or r.0.slot ne r.1))
        (cases_eq r.0.slot slot.0))
        (grows_on (IsYoungField o n) (IsPastTaken o t ages n task p0 pin0 (slots_to_come t ages old))
        (IsTargetBy task (live_at t slot.0)) p0 p q s.promotes g)

    root_here : (takes task (live_at t slot.0) && is_some (live_at t slot.0).target) ≡ true
        → IsRootAt (row_at t) ages n task slot.0
    root_here has =
        let parts = and_parts (takes task (live_at t slot.0)) (is_some (live_at t slot.0).target) has in
        let (x, e) = some_value (live_at t slot.0).target parts.1 in
        record {
          handle = due.handle;
          object = x;
          is_stored = due.is_stored;
          due = due.due;
          takes = ap (takes task) (sym same) ∙ parts.0;
          target = ap (λ (h : Handle Addr). h.target) (sym same) ∙ e;
        }

    no_root : (takes task (live_at t slot.0) && is_some (live_at t slot.0).target) ≡ false
        → IsRootAt (row_at t) ages n task slot.0 → ⊥
    no_root hasnt r =
        let h = it r.handle slot.0 r.is_stored refl in
        both_ways (takes task (live_at t slot.0) && is_some (live_at t slot.0).target) hasnt
        (and_from (takes task (live_at t slot.0)) (is_some (live_at t slot.0).target)
        (ap (takes task) (sym h) ∙ r.takes) (ap (λ (g : Handle Addr). is_some g.target) (sym h)
        ∙ ap is_some r.target))

    number : (has : Bool) (one : ℕ)
        → has ≡ (takes task (live_at t slot.0) && is_some (live_at t slot.0).target) → one ≡ bool_byte has
        → Counts (IsPastWith (IsRootAt (row_at t) ages n task) (slots_to_come t ages new)) (held + one)
    number true one is e =
        subst (λ c. Counts (IsPastWith (IsRootAt (row_at t) ages n task) (slots_to_come t ages new)) c)
        (let c : held + 1 ≡ held + one = omega arith in c)
        (counted_more (IsRootAt (row_at t) ages n task) (slots_to_come t ages old) (slots_to_come t ages new)
        slot.0
        held gives.slots past (root_here (sym is)) s.counted)
    number false one is e =
        subst (λ c. Counts (IsPastWith (IsRootAt (row_at t) ages n task) (slots_to_come t ages new)) c)
        (let c : held ≡ held + one = omega arith in c)
        (counted_else (IsRootAt (row_at t) ages n task) (slots_to_come t ages old) (slots_to_come t ages new)
        slot.0
        held gives.slots past (no_root (sym is)) s.counted)

    at_most_one : (has : Bool) (one : ℕ) → one ≡ bool_byte has → one ≤ 1
    at_most_one true one e = omega arith
    at_most_one false one e = omega arith

    -- one row more
    pub root_row : {q pin' : Addr → Bool} {after : ℕ} → IsOn t new
        → after + length (clumps_to_come t ages new) ≡ steps + length (clumps_to_come t ages old)
        → Grows (IsYoungField o n) (IsTargetBy task (live_at t slot.0)) p q
        → PinsBy task (live_at t slot.0) pin pin' → (has : Bool) (one : ℕ)
        → has ≡ (takes task (live_at t slot.0) && is_some (live_at t slot.0).target) → one ≡ bool_byte has
        → IsRooting o t ages n task p0 pin0 new before after (held + one) q pin'
    root_row on counted grows by has one is e = record {
      under = goes_on s.under gives on counted;
      promotes = promotes grows;
      pinned = λ x h. by.keeps x (s.pinned x h);
      pin_joins = λ x r. ⊎_elim
          (λ same_slot. by.joins x (target_here x r.0.taken same_slot)
          (ap pins (sym (it r.0.taken.handle r.0.taken.slot r.0.taken.is_stored same_slot)) ∙ r.0.pins))
          (λ ne. by.keeps x (s.pin_joins x (r.0, before_or r.0.taken.slot ne r.1)))
          (cases_eq r.0.taken.slot slot.0);
      pin_only = λ x h. ⊎_elim (λ earlier. s.pin_only x earlier)
          (λ b. inr (record { taken = taken_here x b.0; pins = ap pins (sym same) ∙ b.1 })) (by.only x h);
      counted = number has one is e;
      few = let l = ap length gives.slots in let f = s.few in let m = at_most_one has one e in omega arith;
    }

  module _ {old new : DueRows} {before steps held : ℕ} {p pin : Addr → Bool}
      (s : IsRooting o t ages n task p0 pin0 old before steps held p pin) (ends : Ends t ages old new) where
    none : (slot : ℕ) → Contains (slots_to_come t ages old) slot → ⊥
    none = all_past s.under ends

    pub root_end : RootPass o ages n task (view_at t p0 pin0) (view_at t p pin) held
    root_end = record {
      table = refl;
      promotes =
          grows_like (IsYoungField o n) (IsPastTaken o t ages n task p0 pin0 (slots_to_come t ages old))
          (IsTaken (row_at t) ages n task) p0 p (λ x r. r.0) (λ x r. (r, none r.slot)) s.promotes;
      pins = record {
        keeps = s.pinned;
        joins = λ x r. s.pin_joins x (r, none r.taken.slot);
        only = s.pin_only;
      };
      count = counted_end (IsRootAt (row_at t) ages n task) (slots_to_come t ages old) held none s.counted;
    }

  -- where ages are sound, what is not visited references older objects, which are promoted and not condemned
  module _ {p pin : Addr → Bool} {held : ℕ} (settled : IsSettled o n p0)
      (sound : HasSoundAges o (row_at t) ages)
      (pass : RootPass o ages n task (view_at t p0 pin0) (view_at t p pin) held) where
    undue_older : (x : Addr) (r : IsTargetOf (row_at t) (takes task) x) → is_due ages n r.slot ≡ false
        → n < generation_at o x
    undue_older x r undue =
        undue_target o n (row_at t) ages sound r.slot r.handle r.is_stored undue x r.target

    abbrev visited : (x : Addr) (r : IsTargetOf (row_at t) (takes task) x) → is_due ages n r.slot ≡ true
        → IsTaken (row_at t) ages n task x
    visited x r due = record {
      slot = r.slot;
      handle = r.handle;
      is_stored = r.is_stored;
      due = due;
      takes = r.passes;
      target = r.target;
    }

    abbrev anywhere : (x : Addr) (r : IsTaken (row_at t) ages n task x) → IsTargetOf (row_at t) (takes task) x
    anywhere x r =
        record {
          slot = r.slot;
          handle = r.handle;
          is_stored = r.is_stored;
          passes = r.takes;
          target = r.target;
        }

    pub root_whole : WholeRoots o n (takes task) (view_at t p0 pin0) (view_at t p pin)
    root_whole = record {
      promotes = record {
        keeps = pass.promotes.keeps;
        joins = λ x r. ⊎_elim (λ due. pass.promotes.joins x (visited x r due))
            (λ undue. pass.promotes.keeps x (settled.older x (undue_older x r undue)))
            (cases_Bool (is_due ages n r.slot));
        only = λ x h. ⊎_elim (λ earlier. inl earlier)
            (λ (w : (r : Addr) × (IsTaken (row_at t) ages n task r × Leads (IsYoungField o n) r x)).
            inr (w.0, (anywhere w.0 w.1.0, w.1.1))) (pass.promotes.only x h);
      };
      pins = λ x condemned. (
        λ h. ⊎_elim (λ earlier. inl earlier)
            (λ r. inr (record { of = anywhere x r.taken; pins = r.pins })) (pass.pins.only x h),
        ⊎_elim (λ earlier. pass.pins.keeps x earlier)
            (λ r. ⊎_elim
            (λ due. pass.pins.joins x (record { taken = visited x r.of due; pins = r.pins }))
            (λ undue. let above = undue_older x r.of undue in
            let young = condemned.young in absurd (omega arith))
            (cases_Bool (is_due ages n r.of.slot))),
      );
    }
