-- Blocks that are given back with their data blocks, and slots that the weak table holds no more.
use Rattle.hd_store.proofs.StoreWords.{Addr, BlockUse, Dependent, FinMap, Handle, Id, IsSome, IsStored, IsTied, IsWellFormed, Kind, Machine, None, Numbers, Option, Parts, Slot, Some, State, Table, WeakEntry, WeakTable, ap, arith, cases_eq, cond, empty, entry_named, eq-eqb, extra_data, false, get, get-retain_keys, get_left, get_removed, handle_at, handles_of, id_at, inl, inr, is_none, is_some, kind_in_use, kind_number, live_at, machine_of, nat_cmp, nat_cmp-IsAntisymmetric, ne_eqb, not, option_map, refl, remove, remove_cases, rename_handle, rows_by_id, same_Some, state_of, subst, sym, true≢false, unheld, use_of, weak_by_id, with_pinned, without_row, some_value, ℕ, ◌*◌, ◌+◌, ◌/◌, ◌<◌, ◌∙◌, ◌≡◌, ◌≢◌, ◌≤◌, ◌⊎◌, callers_of}
use Rattle.hd_store.specs.Inside.{IsWide}
use Rattle.std.proofs.Common.{◌==◌}
use Rattle.std.proofs.lemmas.Bool.{cases_lt}
use Rattle.hd_model.proofs.{KindTests.same_number, WellFormedWrites.without_use_keeps}
use Rattle.hd_model.specs.State.{IsAllFree, without_use}
use Rattle.hd_model.specs.declared.limits.TheConstants.{ROWS}
use Rattle.hd_store.proofs.{EntryMaps.same_numbers, IdentityReadings.is_some-map, IdentityReadings.no_some}
use Rattle.hd_store.proofs.EntryReadings.{unheld-get, weak-get, tied-agrees}
use Rattle.hd_store.proofs.{EntrySearch.held-some, EntrySearch.weak-read, EntrySweep.row-known}
use Rattle.hd_store.proofs.StoreRows.{AreTied, IsStorable, held-live, held-read, row-read, storable, stored-entries}
use Rattle.hd_store.specs.Calls.{IsSound}
use Rattle.hd_seg.specs.Given.{HasNoneGiven, IsNextGiven}
use Rattle.hd_store.specs.Spare.{GivesBackPair, HasNoSpare, HasNothing, IsLeastSpare, IsSpare, IsVacant, without_pair, without_slots}

-- ---- a slot that the weak table holds no more

-- the state without it
abbrev pub without_weak : State → ℕ → State
without_weak s slot = record s { weak = remove s.weak slot }

-- nothing is taken out of a map without the key
remove-none : {A : Type 0} (m : FinMap nat_cmp A) (k : ℕ) → get m k ≡ None → remove m k ≡ m
remove-none m k none =
    same_numbers (remove m k) m (λ q. remove_cases m k (λ j o. o ≡ get m j) q (sym none) (λ apart. refl))

module _ (f : Parts) (m : Machine) (view : machine_of f ≡ m) (slot : ℕ) where
  -- a slot that is held without an entry is idle
  pub held_idle : ((e : WeakEntry Id) → get m.state.weak slot ≢ Some (Some e)) → IsSome (get f.weak.held slot)
      → get f.weak.held slot ≡ Some None
  held_idle no_entry held = by (get f.weak.held slot) refl
    where
      by : (o : Option (Option Id)) → get f.weak.held slot ≡ o → o ≡ Some None
      by None is = absurd (true≢false (sym held ∙ ap is_some is))
      by (Some None) is = refl
      by (Some (Some key)) is = absurd (no_entry _ (weak-read f m view slot
          ∙ ap (option_map (entry_named (id_at f.heap) (get f.table.rows slot))) is))

  -- and has no handle
  pub idle_vacant : get f.weak.held slot ≡ Some None → get (unheld f.table.rows f.weak.held) slot ≡ None
  idle_vacant idle = unheld-get f.table.rows f.weak.held slot
      ∙ ap (λ o. cond (is_none o) (get f.table.rows slot) None) idle

  -- where the slot is not held, it is as if it were released
  pub released_before : get f.weak.held slot ≡ None
      → m ≡ record m { state = without_weak m.state slot; table = m.table }
  released_before none =
      ap (λ w. record m { state = record m.state { weak = w }; table = m.table })
      (sym (remove-none m.state.weak slot (weak-read f m view slot
      ∙ ap (option_map (entry_named (id_at f.heap) (get f.table.rows slot))) none)))

module _ (f : Parts) (m : Machine) (view : machine_of f ≡ m) (stored : IsStored f) (slot : ℕ)
    (wide : IsWide f.table.blocks (callers_of f) f.weak)
    (vacant : get (unheld f.table.rows f.weak.held) slot ≡ None) where
  abbrev pub released : Parts
  released = record f {
    table = without_row f.table slot;
    weak = record f.weak { held = remove f.weak.held slot };
  }

  tied_left : AreTied released
  tied_left s key =
      remove_cases f.weak.held slot (λ j o. o ≡ Some key → IsTied f.heap (remove f.table.rows slot) j key) s
      (λ none. absurd (no_some key (sym none)))
      (λ apart is. tied-agrees f released s key (stored.tied s key is)
      (get_left f.table.rows slot s apart) (λ x e. refl))

  pub stored-released : IsStored released
  stored-released =
      stored-entries f (without_row f.table slot) f.ages
      (record f.weak { held = remove f.weak.held slot }) stored refl stored.uses refl
      (λ s r. remove_cases f.table.rows slot (λ j o. o ≡ Some r → IsStorable f j r) s
      (λ none. absurd (no_some r (sym none))) (λ apart is. storable f stored s r is))
      (inl (record { blocks_are = wide.blocks_are; buckets_are = wide.buckets_are })) tied_left

  handles_left : unheld (remove f.table.rows slot) (remove f.weak.held slot)
      ≡ unheld f.table.rows f.weak.held
  handles_left =
      let rows = remove f.table.rows slot in
      let was = unheld f.table.rows f.weak.held in
      same_numbers _ _ (λ s. unheld-get rows (remove f.weak.held slot) s
      ∙ remove_cases f.weak.held slot (λ j o. cond (is_none o) (get rows j) None ≡ get was j) s
      (get_removed f.table.rows slot ∙ sym vacant)
      (λ apart. ap (λ o. cond (is_none (get f.weak.held s)) o None) (get_left f.table.rows slot s apart)
      ∙ sym (unheld-get f.table.rows f.weak.held s)))

  weak_left : weak_by_id f.heap (remove f.table.rows slot) (remove f.weak.held slot)
      ≡ remove (weak_by_id f.heap f.table.rows f.weak.held) slot
  weak_left =
      let rows = remove f.table.rows slot in
      let old = weak_by_id f.heap f.table.rows f.weak.held in
      same_numbers _ _ (λ s. weak-get f.heap rows (remove f.weak.held slot) s
      ∙ remove_cases f.weak.held slot
      (λ j o. option_map (entry_named (id_at f.heap) (get rows j)) o ≡ get (remove old slot) j) s
      (sym (get_removed old slot))
      (λ apart. ap (λ r. option_map (entry_named (id_at f.heap) r) (get f.weak.held s))
      (get_left f.table.rows slot s apart)
      ∙ sym (weak-get f.heap f.table.rows f.weak.held s) ∙ sym (get_left old slot s apart)))

  pub machine-released : machine_of released
      ≡ record m { state = without_weak m.state slot; table = without_row f.table slot }
  machine-released =
      (λ i. record (machine_of f) {
        state = record (state_of f) { handles = rows_by_id f.heap (handles_left i); weak = weak_left i };
        table = without_row f.table slot;
      })
      ∙ ap (λ (n : Machine). record n {
        state = without_weak n.state slot;
        table = without_row f.table slot;
      }) view

  -- what the store has, and what the machine sees
  pub has_released : (t : Table) (w : WeakTable) → t ≡ without_row f.table slot
      → w ≡ record f.weak { held = remove f.weak.held slot }
      → IsStored (record f { table = t; weak = w })
      × (machine_of (record f { table = t; weak = w })
      ≡ record m { state = without_weak m.state slot; table = t })
  has_released t w table weak =
      let same : released ≡ record f { table = t; weak = w } =
      λ i. record f { table = sym table i; weak = sym weak i } in (
        subst IsStored same stored-released,
        ap machine_of (sym same) ∙ machine-released
            ∙ (λ i. record m { state = without_weak m.state slot; table = sym table i }),
      )

-- ---- what a slot has

entry_some : (name : Addr → Id) (row : Option (Handle Addr)) (key : Option Id)
    → is_some (entry_named name row key) ≡ is_some key
entry_some name row None = refl
entry_some name row (Some k) = refl

module _ (f : Parts) (m : Machine) (view : machine_of f ≡ m) (stored : IsStored f) (slot : Slot) where
  -- a slot without a row has nothing
  pub nothing_there : get f.table.rows slot.0 ≡ None → HasNothing m.state slot
  nothing_there none = record {
    no_handle = by (get f.weak.held slot.0) refl;
    no_entry = λ e is. true≢false
        (sym (held-live f stored slot.0 (held-some f m view stored slot.0 (ap is_some is))) ∙ ap is_some none);
  }
    where
      by : (o : Option (Option Id)) → get f.weak.held slot.0 ≡ o → handle_at m.state slot ≡ None
      by None free = row-read f m view slot free ∙ ap (option_map (rename_handle (id_at f.heap))) none
      by (Some key) held = held-read f m view slot (ap is_some held)

  -- one that the weak table does not hold has a handle
  pub handle_there : IsSome (get f.table.rows slot.0) → get f.weak.held slot.0 ≡ None
      → HasNothing m.state slot → ⊥
  handle_there live free nothing =
      true≢false (sym live ∙ sym (is_some-map (rename_handle (id_at f.heap)) (get f.table.rows slot.0))
      ∙ sym (ap is_some (row-read f m view slot free)) ∙ ap is_some nothing.no_handle)

  -- one that it holds has an entry where its row has a target
  entry_there : (key : Option Id) → get f.weak.held slot.0 ≡ Some key
      → (o : Option (WeakEntry Id)) × (get m.state.weak slot.0 ≡ Some o)
      × (is_some o ≡ is_some (live_at f.table slot.0).target)
  entry_there key is =
      let t = stored.tied slot.0 key is in (
        entry_named (id_at f.heap) (get f.table.rows slot.0) key,
        weak-read f m view slot.0 ∙ ap (option_map (entry_named (id_at f.heap) (get f.table.rows slot.0))) is,
        entry_some (id_at f.heap) (get f.table.rows slot.0) key ∙ sym (ap is_some t.key_is)
            ∙ is_some-map (id_at f.heap) t.target
            ∙ ap (λ (h : Handle Addr). is_some h.target) (sym (row-known f.table slot.0 _ t.row)),
      )

  pub held_taken : IsSome (get f.weak.held slot.0) → IsSome (live_at f.table slot.0).target
      → HasNothing m.state slot → ⊥
  held_taken held target nothing =
      let key = some_value (get f.weak.held slot.0) held in
      let there = entry_there key.0 key.1 in
      let entry = some_value there.0 (there.2 ∙ target) in
      nothing.no_entry entry.0 (there.1 ∙ ap Some entry.1)

  pub held_nothing : IsSome (get f.weak.held slot.0) → is_some (live_at f.table slot.0).target ≡ false
      → HasNothing m.state slot
  held_nothing held none =
      let key = some_value (get f.weak.held slot.0) held in
      let there = entry_there key.0 key.1 in
      record {
        no_handle = held-read f m view slot held;
        no_entry = λ e is. true≢false (sym (ap is_some (same_Some there.0 (Some e) (sym there.1 ∙ is)))
            ∙ there.2 ∙ none);
      }

-- ---- the kind of a block

pub use_from : (u : Option BlockUse) (kind : Kind) → kind_in_use u ≡ Some kind → u ≡ Some (handles_of kind)
use_from None kind e = cc
use_from (Some extra_data) kind e = cc
use_from (Some (handles_of k)) kind e = cc

module _ (s : State) (block : ℕ) where
  first_of : block * ROWS / ROWS ≡ block
  first_of = omega arith

  -- a block has handles of the kind with the number that was found, and of no other
  pub kind_of_use : {of kind : Kind} → Some of ≡ kind_in_use (use_of s (block * ROWS / ROWS))
      → kind_number of ≡ kind_number kind → use_of s block ≡ Some (handles_of kind)
  kind_of_use {of} {kind} is same =
      use_from (use_of s block) kind
      (ap (λ b. kind_in_use (use_of s b)) (sym first_of) ∙ sym is ∙ ap Some (same_number of kind same))

  pub no_kind_of_use : {of kind : Kind} → Some of ≡ kind_in_use (use_of s (block * ROWS / ROWS))
      → use_of s block ≡ Some (handles_of kind) → kind_number of ≡ kind_number kind
  no_kind_of_use {of} {kind} is has =
      ap kind_number (same_Some of kind
      (is ∙ ap (λ b. kind_in_use (use_of s b)) first_of ∙ ap kind_in_use has))

  pub none_of_use : {kind : Kind} → None ≡ kind_in_use (use_of s (block * ROWS / ROWS))
      → use_of s block ≡ Some (handles_of kind) → ⊥
  none_of_use {kind} is has =
      no_some kind (sym (ap kind_in_use has) ∙ ap (λ b. kind_in_use (use_of s b)) (sym first_of) ∙ sym is)

-- ---- the slots of a block, one after another

-- one more slot has nothing
pub nothing_more : (s : State) (block many : ℕ)
    → ((slot : Slot) → block * ROWS ≤ slot.0 → slot.0 < block * ROWS + many → HasNothing s slot)
    → HasNothing s (record { 0 = block * ROWS + many })
    → (slot : Slot) → block * ROWS ≤ slot.0 → slot.0 < block * ROWS + (many + 1) → HasNothing s slot
nothing_more s block many before here slot low high =
    elim (cases_lt slot.0 (block * ROWS + many)) [
      | inl less ↦ before slot low less
      | inr more ↦ subst (λ n. HasNothing s (record { 0 = n }))
          (let at : block * ROWS + many ≡ slot.0 = omega (arith, high, more) in at) here
    ]

-- the first of them are the weak table's no more
pub record HasReleased (old new : Machine) (block many : ℕ) : Type 0 where
  pub same : new ≡ record old { state = record old.state { weak = new.state.weak }; table = new.table }
  pub gone : (slot : ℕ) → block * ROWS ≤ slot → slot < block * ROWS + many → get new.state.weak slot ≡ None
  pub kept : (slot : ℕ) → (slot < block * ROWS) ⊎ (block * ROWS + many ≤ slot)
      → get new.state.weak slot ≡ get old.state.weak slot

pub none_released : (m : Machine) (block : ℕ) → HasReleased m m block 0
none_released m block = record {
  same = refl;
  gone = λ slot low high. absurd (omega arith);
  kept = λ slot out. refl;
}

module _ {old m : Machine} {block many : ℕ} (was : HasReleased old m block many) where
  -- the next one still has no entry
  pub next_idle : IsVacant old.state block → many < ROWS
      → (e : WeakEntry Id) → get m.state.weak (block * ROWS + many) ≢ Some (Some e)
  next_idle vacant less e is =
      (vacant (record { 0 = block * ROWS + many }) (omega arith)).no_entry e
      (sym (was.kept (block * ROWS + many) (inr (omega arith))) ∙ is)

  pub one_released : {new : Machine}
      → new ≡ record m { state = without_weak m.state (block * ROWS + many); table = new.table }
      → HasReleased old new block (many + 1)
  one_released {new} is =
      let weak : new.state.weak ≡ remove m.state.weak (block * ROWS + many) = ap (λ (x : Machine). x.state.weak) is in
      record {
        same =
            is ∙ ap (λ (x : Machine). record x { state = without_weak x.state (block * ROWS + many); table = new.table }) was.same
            ∙ ap (λ w. record old { state = record old.state { weak = w }; table = new.table }) (sym weak);
        gone = λ slot low high. ap (λ w. get w slot) weak
            ∙ remove_cases m.state.weak (block * ROWS + many) (λ j o. (j ≡ slot) → o ≡ None) slot (λ _. refl)
            (λ apart _. was.gone slot low (omega (arith, high, apart))) refl;
        kept = λ slot out. ap (λ w. get w slot) weak
            ∙ get_left m.state.weak (block * ROWS + many) slot (λ same. beyond slot out same) ∙ was.kept slot (within slot out);
      }
    where
      beyond : (slot : ℕ) → (slot < block * ROWS) ⊎ (block * ROWS + (many + 1) ≤ slot) → slot ≡ block * ROWS + many → ⊥
      beyond slot (inl low) same = absurd (omega arith)
      beyond slot (inr high) same = absurd (omega arith)

      within : (slot : ℕ) → (slot < block * ROWS) ⊎ (block * ROWS + (many + 1) ≤ slot)
          → (slot < block * ROWS) ⊎ (block * ROWS + many ≤ slot)
      within slot (inl low) = inl low
      within slot (inr high) = inr (omega arith)

-- a slot that the state without the slots of a block has still, and one of the block
pub slot_gone : (s : State) (block slot : ℕ) → slot / ROWS ≡ block → get (without_slots s block).weak slot ≡ None
slot_gone s block slot here =
    get-retain_keys s.weak (λ x. not (x / ROWS == block)) slot
    (λ x same. ap (λ y. not (y / ROWS == block)) (sym (nat_cmp-IsAntisymmetric slot x same)))
    ∙ ap (λ b. cond b (get s.weak slot) None) (ap not (eq-eqb (slot / ROWS) block here))

pub slot_left : (s : State) (block slot : ℕ) → slot / ROWS ≢ block
    → get (without_slots s block).weak slot ≡ get s.weak slot
slot_left s block slot away =
    get-retain_keys s.weak (λ x. not (x / ROWS == block)) slot
    (λ x same. ap (λ y. not (y / ROWS == block)) (sym (nat_cmp-IsAntisymmetric slot x same)))
    ∙ ap (λ b. cond b (get s.weak slot) None) (ap not (ne_eqb (slot / ROWS) block away))

-- all of them are the weak table's no more
pub all_released : {old new : Machine} {block many : ℕ} → HasReleased old new block many → many ≡ ROWS
    → new ≡ record old { state = without_slots old.state block; table = new.table }
all_released {old} {new} {block} {many} was all =
    was.same
    ∙ ap (λ w. record old { state = record old.state { weak = w }; table = new.table })
    (same_numbers new.state.weak (without_slots old.state block).weak (λ slot. elim (cases_eq (slot / ROWS) block) [
      | inl here ↦ was.gone slot (omega (arith, here)) (omega (arith, here, all))
          ∙ sym (slot_gone old.state block slot here)
      | inr away ↦ was.kept slot (outside slot away) ∙ sym (slot_left old.state block slot away)
    ]))
  where
    outside : (slot : ℕ) → slot / ROWS ≢ block → (slot < block * ROWS) ⊎ (block * ROWS + many ≤ slot)
    outside slot away = elim (cases_lt slot (block * ROWS)) [
      | inl low ↦ inl low
      | inr high ↦ inr (omega (arith, high, away, all))
    ]

-- ---- a state stays well formed

module _ (n : Numbers) (s : State) (w : IsWellFormed n s) (block : ℕ) where
  -- what the weak table has was there
  was_weak : (slot : ℕ) (o : Option (WeakEntry Id)) → get (without_slots s block).weak slot ≡ Some o
      → get s.weak slot ≡ Some o
  was_weak slot o is = elim (cases_eq (slot / ROWS) block) [
    | inl here ↦ absurd (no_some o (sym is ∙ slot_gone s block slot here))
    | inr away ↦ sym (slot_left s block slot away) ∙ is
  ]

  was_held : (slot : ℕ) → IsSome (get (without_slots s block).weak slot) → IsSome (get s.weak slot)
  was_held slot there =
      let held = some_value (get (without_slots s block).weak slot) there in
      ap is_some (was_weak slot held.0 held.1)

  pub slots_keep : IsWellFormed n (without_slots s block)
  slots_keep = record {
    shape = record {
      registers = w.shape.registers;
      each_registers = w.shape.each_registers;
      handle_registers = w.shape.handle_registers;
      each_handle_registers = w.shape.each_handle_registers;
      statics = w.shape.statics;
      board = w.shape.board;
      serials = w.shape.serials;
    };
    names = record {
      fields = w.names.fields;
      registers = w.names.registers;
      statics = w.names.statics;
      targets = w.names.targets;
      secondaries = w.names.secondaries;
      queue = w.names.queue;
      pinned = w.names.pinned;
      keys = λ slot e is. w.names.keys slot e (was_weak slot (Some e) is);
      values = λ slot e is. w.names.values slot e (was_weak slot (Some e) is);
    };
    objects = record {
      sizes = w.objects.sizes;
      generations = w.objects.generations;
      queued_once = w.objects.queued_once;
    };
    serials = record {
      from_one = w.serials.from_one;
      to_last = w.serials.to_last;
      limit = w.serials.limit;
    };
    handles = record {
      kinds = w.handles.kinds;
      extras = w.handles.extras;
      dependents = w.handles.dependents;
      blocks = w.handles.blocks;
    };
    weak = record {
      kinds = λ slot there. w.weak.kinds slot (was_held slot there);
      apart = λ slot there. w.weak.apart slot (was_held slot there);
      once = λ a b d e of_a of_b. w.weak.once a b d e (was_weak a (Some d) of_a) (was_weak b (Some e) of_b);
    };
  }

-- no slot of a data block has a handle, or is the weak table's
module _ {n : Numbers} {s : State} (w : IsWellFormed n s) (extra : ℕ) (extra_is : use_of s extra ≡ Some extra_data)
    (slot : ℕ) (here : slot / ROWS ≡ extra) where
  no_kind : (k : Kind) → use_of s (slot / ROWS) ≡ Some (handles_of k) → ⊥
  no_kind k is =
      let clash : Some (handles_of k) ≡ Some extra_data = sym is ∙ ap (use_of s) here ∙ extra_is in cc

  data_no_handle : get s.handles slot ≡ None
  data_no_handle = by (get s.handles slot) refl
    where
      by : (o : Option (Handle Id)) → get s.handles slot ≡ o → o ≡ None
      by None is = refl
      by (Some h) is = absurd (no_kind h.kind (w.handles.kinds slot h is))

  data_not_weak : get s.weak slot ≡ None
  data_not_weak = by (get s.weak slot) refl
    where
      by : (o : Option (Option (WeakEntry Id))) → get s.weak slot ≡ o → o ≡ None
      by None is = refl
      by (Some e) is = absurd (no_kind Dependent (w.weak.kinds slot (ap is_some is)))

module _ (n : Numbers) (s : State) (w : IsWellFormed n s) (kind : Kind) (block extra : ℕ)
    (spare : IsSpare s kind block) (extra_is : use_of s extra ≡ Some extra_data) where
  pub pair_keeps : IsWellFormed n (without_pair s block extra)
  pair_keeps =
      let free = without_slots s block in
      let first = slots_keep n s w block in
      let second = without_use_keeps n free first extra (data_no_handle first extra extra_is)
      (data_not_weak first extra extra_is) in
      without_use_keeps n (without_use free extra) second block
      (λ slot here. (spare.vacant (record { 0 = slot }) here).no_handle) (slot_gone s block)

-- all slots of the block are free, once its slots are the weak table's no more
pub spare_free : (s : State) (kind : Kind) (block : ℕ) → IsSpare s kind block
    → IsAllFree (without_slots s block) kind block
spare_free s kind block spare slot here = record {
  no_handle = (spare.vacant slot here).no_handle;
  not_weak = slot_gone s block slot.0 here;
  of_kind = ap (use_of s) here ∙ spare.of_kind;
}

-- ---- the store

pub sound_pair : (m k : Machine) (kind : Kind) (block extra : ℕ) → IsSound m → IsSpare m.state kind block
    → GivesBackPair m block extra k → IsSound k
sound_pair m k kind block extra sound spare gives =
    subst IsSound (sym gives.after) (record {
      limits = sound.limits;
      well_formed = pair_keeps m.numbers (with_pinned m.state empty) sound.well_formed kind block extra
          (record {
            of_kind = spare.of_kind;
            vacant = λ slot here. record {
              no_handle = (spare.vacant slot here).no_handle;
              no_entry = (spare.vacant slot here).no_entry;
            };
          }) gives.extra_is;
    })

-- ---- a spare block has a use, so none is below the next one with a use, where none was so far

module _ {s : State} {kind : Kind} (before : ℕ)
    (none : (block : ℕ) → block ≤ before → IsSpare s kind block → ⊥) where
  pub none_below : {next : ℕ} → IsNextGiven s.blocks (before + 1) next
      → (block : ℕ) → block < next → IsSpare s kind block → ⊥
  none_below given block low spare =
      elim (cases_lt before block) [
        | inl above ↦ no_some (handles_of kind)
            (sym spare.of_kind ∙ given.least block (omega arith) low)
        | inr below ↦ none block below spare
      ]

  pub none_to : {next : ℕ} → IsNextGiven s.blocks (before + 1) next → (IsSpare s kind next → ⊥)
      → (block : ℕ) → block ≤ next → IsSpare s kind block → ⊥
  none_to {next} given other block low spare =
      elim (cases_eq block next) [
        | inl same ↦ other (subst (IsSpare s kind) same spare)
        | inr apart ↦ none_below given block (omega arith) spare
      ]

  pub least_of : {next : ℕ} → IsNextGiven s.blocks (before + 1) next → IsSpare s kind next
      → IsLeastSpare s kind next
  least_of {next} given spare = record {
    spare = spare;
    least = λ other is. elim (cases_lt other next) [
      | inl low ↦ absurd (none_below given other low is)
      | inr high ↦ high
    ];
  }

  pub none_at_all : HasNoneGiven s.blocks (before + 1) → HasNoSpare s kind
  none_at_all given block spare =
      elim (cases_lt before block) [
        | inl above ↦ no_some (handles_of kind) (sym spare.of_kind ∙ given block (omega arith))
        | inr below ↦ none block below spare
      ]
