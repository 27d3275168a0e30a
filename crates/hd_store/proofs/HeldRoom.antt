-- The weak table has room for each free slot in a block of dependent handles.
use Rattle.hd_store.proofs.StoreWords.{BlockUse, Contains, Contains-append_left, Contains-append_right, Contains-get_or, Dependent, FinMap, Id, IfSome, IsSome, IsStored, IsTable, List, Machine, None, Option, Parts, Slot, Some, State, T, [], ap, arith, block_of, cond, counts_keys, entries, extra_data, fewer, get, handles_of, idle_found, idle_slot, insert, is_kind, is_some, key_found, len, len-entries, len-insert, length, length-append, machine_of, map, member_cases, nat_cmp, nat_cmp_total, not_in_none, one_extra, one_paired, range_with_len, refl, slot_of_key, subst, sum_by, sum_by-cons, sym, ℕ, ⊎_elim, ◌%◌, ◌*◌, ◌++◌, ◌+◌, ◌/◌, ◌<◌, ◌∙◌, ◌∷◌, ◌≡◌, ◌≤◌, insert_cases}
use Rattle.std.proofs.lemmas.List.FromFn.{length-range_with_len, get_or-range_with_len}
use Rattle.hd_model.proofs.MapEntries.{entry_of}
use Rattle.hd_store.proofs.EntrySearch.{at-idle}
use Rattle.hd_model.specs.declared.data.Kind.TheVariants as kind
use Rattle.hd_model.specs.declared.limits.TheConstants.{ROWS}

-- 1 for a block of dependent handles
abbrev one_dependent : BlockUse → ℕ
one_dependent (handles_of k) = cond (is_kind k Dependent) 1 0
one_dependent extra_data = 0

-- the slots of the blocks of dependent handles, 64 for each
abbrev slots_of : List (ℕ × BlockUse) → List ℕ
slots_of [] = []
slots_of (e ∷ es) = range_with_len (ROWS * e.0) (ROWS * one_dependent e.1) ++ slots_of es

length_slots : (es : List (ℕ × BlockUse))
    → length (slots_of es) ≡ ROWS * sum_by one_dependent (map (λ e. e.1) es)
length_slots [] = refl
length_slots (e ∷ es) =
    let known = length-append (range_with_len (ROWS * e.0) (ROWS * one_dependent e.1)) (slots_of es) in
    let also = length-range_with_len (ROWS * e.0) (ROWS * one_dependent e.1) in
    omega (arith, known, also, length_slots es, sum_by-cons one_dependent e.1 (map (λ w. w.1) es))

in_block : (b slot : ℕ) → slot / ROWS ≡ b → Contains (range_with_len (ROWS * b) ROWS) slot
in_block b slot is =
    subst (λ s. Contains (range_with_len (ROWS * b) ROWS) s)
    (get_or-range_with_len (ROWS * b) ROWS (slot % ROWS) 0 (omega arith) ∙ omega (arith, is))
    (Contains-get_or (range_with_len (ROWS * b) ROWS) (slot % ROWS) 0
    (omega (arith, length-range_with_len (ROWS * b) ROWS)))

in_slots : (es : List (ℕ × BlockUse)) (slot : ℕ) → Contains es (slot / ROWS, handles_of Dependent)
    → Contains (slots_of es) slot
in_slots [] slot h = absurd (not_in_none (slot / ROWS, handles_of Dependent) h)
in_slots (e ∷ es) slot h =
    let here : List ℕ = range_with_len (ROWS * e.0) (ROWS * one_dependent e.1) in
    ⊎_elim
    (λ same. Contains-append_left here (slots_of es) slot
    (subst (λ (d : ℕ × BlockUse). Contains (range_with_len (ROWS * d.0) (ROWS * one_dependent d.1)) slot)
    (sym same)
    (in_block (slot / ROWS) slot refl)))
    (λ later. Contains-append_right here (slots_of es) slot (in_slots es slot later))
    (member_cases e es (slot / ROWS, handles_of Dependent) h)

-- dependent handles have extra data, and a block has handles with extra data or is extra data, not both
one_use : (u : BlockUse) → (one_dependent u ≤ one_paired u) × (one_paired u + one_extra u ≤ 1)
one_use (handles_of kind.Short) = (omega arith, omega arith)
one_use (handles_of kind.Long) = (omega arith, omega arith)
one_use (handles_of kind.Strong) = (omega arith, omega arith)
one_use (handles_of kind.Pinned) = (omega arith, omega arith)
one_use (handles_of kind.Variable) = (omega arith, omega arith)
one_use (handles_of kind.Counted) = (omega arith, omega arith)
one_use (handles_of kind.Dependent) = (omega arith, omega arith)
one_use extra_data = (omega arith, omega arith)

abbrev sum_of : (BlockUse → ℕ) → List (ℕ × BlockUse) → ℕ
sum_of w es = sum_by w (map (λ e. e.1) es)

at_most_all : (es : List (ℕ × BlockUse)) → (sum_of one_dependent es ≤ sum_of one_paired es)
    × (sum_of one_paired es + sum_of one_extra es ≤ length es)
at_most_all [] = (omega arith, omega arith)
at_most_all (e ∷ es) =
    let rest = at_most_all es in
    let one = one_use e.1 in
    let dependent = sum_by-cons one_dependent e.1 (map (λ w. w.1) es) in
    let paired = sum_by-cons one_paired e.1 (map (λ w. w.1) es) in (
      omega (arith, rest.0, one.0, dependent, paired),
      omega (arith, rest.1, one.1, paired, sum_by-cons one_extra e.1 (map (λ w. w.1) es)),
    )

module _ (f : Parts) (stored : IsStored f) (table : IsTable f.table) where
  abbrev IsDependent : ℕ → Type 0
  IsDependent slot = get f.table.uses (slot / ROWS) ≡ Some (handles_of Dependent)

  -- a slot that the weak table holds is in a block of dependent handles
  pub held-block : (slot : ℕ) → IsSome (get f.weak.held slot) → IsDependent slot
  held-block slot held = by (get f.weak.held slot) refl
    where
      by : (o : Option (Option Id)) → get f.weak.held slot ≡ o → IsDependent slot
      by None is = absurd (subst T (sym (sym (ap is_some is) ∙ held)) tt)
      by (Some key) is = (table.rows slot _ (stored.tied slot key is).row).block

  -- slots in such blocks are no more than the blocks have
  few_slots : (m : FinMap nat_cmp (Option Id)) → ((slot : ℕ) → IsSome (get m slot) → IsDependent slot)
      → len m ≤ ROWS * (f.table.blocks / 2)
  few_slots m each =
      let keys = counts_keys m (λ k. k) (λ k. k) (λ k. refl) (λ k. refl) in
      let most = fewer keys.members (slots_of (entries f.table.uses)) keys.apart
      (λ k h. in_slots (entries f.table.uses) k (entry_of f.table.uses (k / ROWS) (handles_of Dependent)
      (each k (keys.each k h)))) in
      let known = length_slots (entries f.table.uses) in
      let also = at_most_all (entries f.table.uses) in
      omega (
        arith,
        keys.number,
        most,
        known,
        also.0,
        also.1,
        len-entries f.table.uses,
        table.given,
        stored.uses.extras,
      )

  pub room-held : (slot : ℕ) → get f.weak.held slot ≡ None → IsDependent slot
      → len f.weak.held < ROWS * (f.table.blocks / 2)
  room-held slot free here =
      let more = insert f.weak.held slot None in
      let all = few_slots more (λ s. insert_cases f.weak.held slot (λ k o. IsSome o → IsDependent k) None s
      (λ _. here) (λ _. held-block s)) in
      let one : len more ≡ len f.weak.held + 1 =
      len-insert nat_cmp_total f.weak.held slot None
      ∙ ap (λ o. cond (is_some o) (len f.weak.held) (len f.weak.held + 1)) free in
      omega (arith, all, one)

  -- an idle slot is in a block of the table
  pub idle-within : (m : Machine) → machine_of f ≡ m → (o : Option Slot) → o ≡ idle_slot m.state
      → IfSome o (λ slot. (1 ≤ block_of slot) × (block_of slot ≤ m.numbers.blocks))
  idle-within m view None is = tt
  idle-within m view (Some slot) is =
      let held = at-idle f m view slot.0 (idle_found m.state slot (sym is)) in
      let inside = stored.uses.within (slot.0 / ROWS) (ap is_some (held-block slot.0 (ap is_some held))) in
      (inside.0, subst (λ n. slot.0 / ROWS ≤ n) (ap (λ (x : Machine). x.numbers.blocks) view) inside.1)

-- what is found is in the weak table
pub found-held : (s : State) (key : Id) (o : Option Slot) → o ≡ slot_of_key s key
    → IfSome o (λ slot. IsSome (get s.weak slot.0))
found-held s key None is = tt
found-held s key (Some slot) is = ap is_some (key_found s key slot (sym is)).held

pub idle-held : (s : State) (o : Option Slot) → o ≡ idle_slot s
    → IfSome o (λ slot. get s.weak slot.0 ≡ Some None)
idle-held s None is = tt
idle-held s (Some slot) is = idle_found s slot (sym is)
