-- A collection of a store's parts is one of its state, and leaves a store.
use Rattle.hd_store.proofs.StoreWords.{Addr, AreAddresses, BlockUse, Bool, Collected, Collects, CollectsState, FinMap, Handle, HasCollected, Heap, Id, IsCompactStore, IsPinned, IsSome, IsStored, IsTied, List, Machine, None, Option, Parts, Placed, Report, Scene, Some, Table, WeakTable, [], ap, arith, callers_of, cleared, cond, counts_named, drop, entry_named, false, get, get-retain_keys, has_object, id_at, id_in, is_none, is_pinned, is_some, kept_key, kept_pinned, length, live_at, not, length-map, machine_of, map, names_of, nat_cmp, nat_cmp-IsAntisymmetric, objects_by_id, one_extra, one_paired, option_map, pinned_decides, pins, pins_renamed, refl, rename_handle, rest_of, row_at, rows_by_id, rows_of, same_Some, scene_of, state_of, subst, sum_by, swept, sym, take, true, true≢false, values, weak_by_id, with_pinned, ℕ, ◌++◌, ◌∙◌, ◌∷◌, ◌≡◌, inl, inr, ⊎_elim}
use Rattle.hd_store.specs.Inside.{HasWeakRoom}
use Rattle.hd_model.specs.Compact.{IsCompact}
use Rattle.hd_gc.specs.Ready.{parts, Parts as Lent}
use Rattle.hd_store.proofs.EntryReadings.{handles-get, handle-get, handle-row, weak-get, tied-agrees}
use Rattle.hd_store.proofs.EntrySweep.{attaching, IsLeft, left-row, swept-key, swept-entry, row-known}
use Rattle.hd_store.proofs.{IdentityReadings.no_some, IdentityReadings.names-get, HeapCallReadings.placed_is}
use Rattle.hd_store.proofs.SceneReading.{rows-all, apart_here, scene_by_id, parts-read, scene-read}

-- the parts after a collection
abbrev pub left_parts : Parts → Lent → WeakTable → Parts
left_parts f l w =
    record f { heap = l.heap; table = l.table; ages = l.ages; weak = w; queue = l.queue; roots = l.roots }

-- what a store lends a collection
abbrev pub lent_of : Parts → Lent
lent_of f = parts f.heap f.table f.ages f.queue f.roots

-- a store was collected, and its weak table swept by the rows that were left
pub record IsSwept (f : Parts) (l : Lent) (w : WeakTable) (n : ℕ) (report : Report) (before after : ℕ)
    : Type 0 where
  pub stored : IsStored f
  pub done : Collected (lent_of f) l n report before after
  pub blocks : w.blocks ≡ f.weak.blocks
  pub buckets : w.buckets ≡ f.weak.buckets
  pub each : (slot : ℕ) → get w.held slot ≡ option_map (kept_key l.table slot) (get f.weak.held slot)

-- the handles by identity and by address
unnamed : (g : Addr → Id) (o : Option Addr) (x : Id) → option_map g o ≡ Some x → (y : Addr)
    × ((o ≡ Some y) × (g y ≡ x))
unnamed g None x is = absurd (no_some x (sym is))
unnamed g (Some y) x is = (y, (refl, same_Some (g y) x is))

unread : (g : Addr → Id) (o : Option (Handle Addr)) (h : Handle Id) → option_map (rename_handle g) o ≡ Some h
    → (row : Handle Addr) × ((o ≡ Some row) × (rename_handle g row ≡ h))
unread g None h is = absurd (no_some h (sym is))
unread g (Some row) h is = (row, (refl, same_Some (rename_handle g row) h is))

named_at : (h : Heap) (a : ℕ) (x : Id) → get (names_of h) a ≡ Some x → (p : Placed)
    × ((get h.objects a ≡ Some p) × (p.id ≡ x))
named_at h a x is = by (get h.objects a) refl
  where
    by : (o : Option Placed) → get h.objects a ≡ o → (p : Placed) × ((get h.objects a ≡ Some p) × (p.id ≡ x))
    by None none = absurd (no_some x (sym is ∙ names-get h a ∙ ap (option_map (λ (p : Placed). p.id)) none))
    by (Some p) there = (
      p,
      (
        there,
        same_Some p.id x (sym (ap (option_map (λ (q : Placed). q.id)) there) ∙ sym (names-get h a) ∙ is),
      ),
    )

kept_if : {A : Type 0} (b : Bool) (o : Option A) (x : A) → cond b o None ≡ Some x → (b ≡ true) × (o ≡ Some x)
kept_if true o x is = (refl, is)
kept_if false o x is = absurd (no_some x (sym is))

-- what is pinned by address is pinned by identity, and the other way round
module _ (f : Parts) (stored : IsStored f) where
  pinned_object : (x : Addr) → IsPinned (row_at f.table) x → has_object f.heap x ≡ true
  pinned_object x p = stored.whole.targets p.slot p.handle x p.is_stored p.target

  -- what pins is no entry of the weak table
  pinned_unheld : (slot : ℕ) (row : Handle Addr) → get f.table.rows slot ≡ Some row → pins row ≡ true
      → get f.weak.held slot ≡ None
  pinned_unheld slot row is pinned = by (get f.weak.held slot) refl
    where
      by : (o : Option (Option Id)) → get f.weak.held slot ≡ o → get f.weak.held slot ≡ None
      by None e = e
      by (Some key) e =
          let t = stored.tied slot key e in
          absurd (true≢false (sym pinned ∙ ap pins (same_Some row _ (sym is ∙ t.row))))

  pub pinned-to : (x : Addr) → IsPinned (row_at f.table) x
      → IsPinned (λ slot. get (state_of f).handles slot) (id_at f.heap x)
  pinned-to x p = record {
    slot = p.slot;
    handle = rename_handle (id_at f.heap) p.handle;
    is_stored = handle-get f.heap f.table.rows f.weak.held p.slot
        (pinned_unheld p.slot p.handle p.is_stored p.pins)
        ∙ ap (option_map (rename_handle (id_at f.heap))) p.is_stored;
    pins = pins_renamed (id_at f.heap) p.handle ∙ p.pins;
    target = ap (option_map (id_at f.heap)) p.target;
  }

  pub pinned-from : (b : Id) → IsPinned (λ slot. get (state_of f).handles slot) b → (x : Addr)
      × (IsPinned (row_at f.table) x × (id_at f.heap x ≡ b))
  pinned-from b p =
      let (row, was) = unread (id_at f.heap) (get f.table.rows p.slot) p.handle
      (handle-row f.heap f.table.rows f.weak.held p.slot p.handle p.is_stored) in
      let target = ap (λ (k : Handle Id). k.target) was.1 ∙ p.target in
      let (y, to) = unnamed (id_at f.heap) row.target b target in (
        y,
        (
          record {
            slot = p.slot;
            handle = row;
            is_stored = was.0;
            pins = sym (pins_renamed (id_at f.heap) row) ∙ ap pins was.1 ∙ p.pins;
            target = to.0;
          },
          to.1,
        ),
      )

  pub compact-store : IsCompact f.heap (row_at f.table)
      → IsCompactStore (machine_of f).state.handles (machine_of f).heap
  compact-store compact = record {
    pinned = compact.pinned;
    pinned_is =
        counts_named (id_at f.heap) (IsPinned (row_at f.table))
        (IsPinned (λ slot. get (state_of f).handles slot)) compact.pinned
        (λ x y first second same. apart_here f stored.identities x y (pinned_object x first)
        (pinned_object y second) same)
        pinned-to pinned-from compact.pinned_is;
    regions = compact.regions;
  }

key_left : (t : Table) (slot : ℕ) (row : Handle Addr) (key : Option Id) → get t.rows slot ≡ Some row
    → kept_key t slot key ≡ cond (is_none row.target) None key
key_left t slot row key is =
    ap (λ (r : Handle Addr). cond (is_none r.target) None key) (row-known t slot row is)

no_key : (b : Bool) (o : Option Id) → o ≡ cond b o o
no_key true o = refl
no_key false o = refl

-- the row of an entry that a collection leaves, before the weak table is swept
module _ {f : Parts} {l : Lent} (w : WeakTable) {n : ℕ} {report : Report} {before after : ℕ}
    (stored : IsStored f) (done : Collected (lent_of f) l n report before after) where
  -- the collection by identity, with the rows of the weak table among the handles
  rows_collected : Collects (λ (x : Id). x.0) n (scene_by_id f stored.identities)
      (scene_by_id (left_parts f l w) done.ready.identities) report
  rows_collected =
      done.collects (scene_by_id f stored.identities) (scene_by_id (left_parts f l w) done.ready.identities)
      (parts-read f stored.identities) (parts-read (left_parts f l w) done.ready.identities)

  -- the row of an entry after it
  row_left : (slot : ℕ) (key : Option Id) (was : IsTied f.heap f.table.rows slot key) → (row : Handle Addr)
      × ((get l.table.rows slot ≡ Some row)
      × IsLeft (id_at l.heap) rows_collected.reach rows_collected.kept row key
      (option_map (id_at f.heap) was.value))
  row_left slot key was =
      let read : option_map (rename_handle (id_at l.heap)) (get l.table.rows slot)
      ≡ Some (cleared rows_collected.reach rows_collected.kept
      (attaching key (option_map (id_at f.heap) was.value))) =
      rows_collected.handles slot
      ∙ ap (λ o. option_map (cleared rows_collected.reach rows_collected.kept)
      (option_map (rename_handle (id_at f.heap)) o)) was.row
      ∙ ap (λ k. Some (cleared rows_collected.reach rows_collected.kept
      (attaching k (option_map (id_at f.heap) was.value)))) was.key_is in
      let (row, there) = unread (id_at l.heap) (get l.table.rows slot) _ read in
      (row, (there.0, left-row (id_at l.heap) rows_collected.reach rows_collected.kept row key _ there.1))

  -- where no dependent handle lost its target, each entry has its key
  module _ (none : report.dep ≡ 0) where
    key_kept : (slot : ℕ) (key : Id) → get f.weak.held slot ≡ Some (Some key) → rows_collected.kept key ≡ true
    key_kept slot key is = by (rows_collected.kept key) refl
      where
        by : (b : Bool) → rows_collected.kept key ≡ b → rows_collected.kept key ≡ true
        by true kept = kept
        by false lost =
            let was = stored.tied slot (Some key) is in
            let at = rows_collected.report_is.dep.all slot (record {
              handle = attaching (Some key) (option_map (id_at f.heap) was.value);
              is_stored = ap (option_map (rename_handle (id_at f.heap))) was.row
                  ∙ ap (λ k. Some (attaching k (option_map (id_at f.heap) was.value))) was.key_is;
              role_is = refl;
              loses = ap not lost;
            }) in
            absurd (omega (arith, at.1, rows_collected.report_is.dep.number, none))

    pub unswept : (slot : ℕ) → get f.weak.held slot
        ≡ option_map (kept_key l.table slot) (get f.weak.held slot)
    unswept slot = by (get f.weak.held slot) refl
      where
        by : (o : Option (Option Id)) → get f.weak.held slot ≡ o → o ≡ option_map (kept_key l.table slot) o
        by None is = refl
        by (Some None) is = ap Some (no_key (is_none (live_at l.table slot).target) None)
        by (Some (Some key)) is =
            let was = stored.tied slot (Some key) is in
            let (row, at) = row_left slot (Some key) was in
            ap Some (sym (key_left l.table slot row (Some key) at.0
            ∙ ap (λ (r : Handle Addr). cond (is_none r.target) None (Some key)) at.1.row_is
            ∙ swept-key (id_at l.heap) rows_collected.reach rows_collected.kept at.1.target (Some key)
            at.1.key_is
            ∙ at.1.key_is
            ∙ ap (λ b. cond (not b) None (Some key)) (key_kept slot key is)))

module _ {f : Parts} {l : Lent} {w : WeakTable} {n : ℕ} {report : Report} {before after : ℕ}
    (s : IsSwept f l w n report before after) where
  abbrev by_rows : Collects (λ (x : Id). x.0) n (scene_by_id f s.stored.identities)
      (scene_by_id (left_parts f l w) s.done.ready.identities) report
  by_rows = rows_collected w s.stored s.done

  left_row : (slot : ℕ) (key : Option Id) (was : IsTied f.heap f.table.rows slot key) → (row : Handle Addr)
      × ((get l.table.rows slot ≡ Some row)
      × IsLeft (id_at l.heap) by_rows.reach by_rows.kept row key (option_map (id_at f.heap) was.value))
  left_row = row_left w s.stored s.done

  left_tied : (slot : ℕ) (key : Option Id) → get w.held slot ≡ Some key → IsTied l.heap l.table.rows slot key
  left_tied slot key is = by (get f.weak.held slot) refl
    where
      by : (o : Option (Option Id)) → get f.weak.held slot ≡ o → IsTied l.heap l.table.rows slot key
      by None e = absurd (no_some key (sym is ∙ s.each slot ∙ ap (option_map (kept_key l.table slot)) e))
      by (Some old) e =
          let (row, at) = left_row slot old (s.stored.tied slot old e) in
          let kept : kept_key l.table slot old ≡ key = same_Some (kept_key l.table slot old) key
          (sym (ap (option_map (kept_key l.table slot)) e) ∙ sym (s.each slot) ∙ is) in
          record {
            target = at.1.target;
            value = at.1.second;
            row = at.0 ∙ ap Some at.1.row_is;
            key_is = sym (swept-key (id_at l.heap) by_rows.reach by_rows.kept at.1.target old at.1.key_is)
                ∙ ap (λ (r : Handle Addr). cond (is_none r.target) None old) (sym at.1.row_is)
                ∙ sym (key_left l.table slot row old at.0) ∙ kept;
          }

  weak_left : (slot : ℕ) → get (state_of (left_parts f l w)).weak slot
      ≡ option_map (swept by_rows.kept) (get (state_of f).weak slot)
  weak_left slot =
      weak-get l.heap l.table.rows w.held slot
      ∙ ap (option_map (entry_named (id_at l.heap) (get l.table.rows slot))) (s.each slot)
      ∙ by (get f.weak.held slot) refl
      ∙ ap (option_map (swept by_rows.kept)) (sym (weak-get f.heap f.table.rows f.weak.held slot))
    where
      by : (o : Option (Option Id)) → get f.weak.held slot ≡ o
          → option_map (entry_named (id_at l.heap) (get l.table.rows slot))
          (option_map (kept_key l.table slot) (get f.weak.held slot)) ≡ option_map (swept by_rows.kept)
          (option_map (entry_named (id_at f.heap) (get f.table.rows slot)) (get f.weak.held slot))
      by None e =
          (λ i. option_map (entry_named (id_at l.heap) (get l.table.rows slot))
          (option_map (kept_key l.table slot) (e i)))
          ∙ (λ i. option_map (swept by_rows.kept)
          (option_map (entry_named (id_at f.heap) (get f.table.rows slot)) (sym e i)))
      by (Some key) e =
          let was = s.stored.tied slot key e in
          let (row, at) = left_row slot key was in
          (λ i. option_map (entry_named (id_at l.heap) (at.0 i)) (option_map (kept_key l.table slot) (e i)))
          ∙ ap (λ k. Some (entry_named (id_at l.heap) (Some row) k)) (key_left l.table slot row key at.0)
          ∙ ap Some (swept-entry (id_at l.heap) by_rows.reach by_rows.kept row key _ at.1)
          ∙ ap (λ o. Some (swept by_rows.kept (entry_named (id_at f.heap) o key))) (sym was.row)
          ∙ (λ i. option_map (swept by_rows.kept)
          (option_map (entry_named (id_at f.heap) (get f.table.rows slot)) (sym e i)))

  named_same : map (option_map (id_at l.heap)) l.roots ≡ map (option_map (id_at f.heap)) f.roots
  named_same =
      sym (rows-all (callers_of f) (map (option_map (id_at l.heap)) l.roots)) ∙ by_rows.named
      ∙ rows-all (callers_of f) (map (option_map (id_at f.heap)) f.roots)

  pub as_long : length l.roots ≡ length f.roots
  as_long = sym (length-map l.roots (option_map (id_at l.heap))) ∙ ap length named_same
      ∙ length-map f.roots (option_map (id_at f.heap))

  pub stored-left : IsStored (left_parts f l w)
  stored-left = record {
    whole = s.done.ready.whole;
    identities = s.done.ready.identities;
    ages = s.done.ready.ages_sound;
    cards = s.done.ready.cards_sound;
    full = s.done.ready.full;
    room = s.done.ready.room;
    within = omega (arith, s.done.used, s.done.limit, s.stored.within);
    limit = omega (arith, s.done.limit, s.stored.limit);
    roots = s.stored.roots ∙ sym as_long;
    serials = s.stored.serials;
    clumps = sym s.done.ready.clumps;
    blocks = omega (arith, s.done.table.blocks, s.stored.blocks);
    uses = record {
      within = λ block is.
          let was = s.stored.uses.within block (subst (λ (m : FinMap nat_cmp BlockUse). IsSome (get m block))
          s.done.table.uses is) in
          (was.0, omega (arith, was.1, s.done.table.blocks));
      extras = subst
          (λ (m : FinMap nat_cmp BlockUse). sum_by one_paired (values m) ≡ sum_by one_extra (values m))
          (sym s.done.table.uses) s.stored.uses.extras;
    };
    tied = left_tied;
    weak_room = subst (λ n. HasWeakRoom n (callers_of f) w) (sym s.done.table.blocks)
        (⊎_elim (λ wide. inl (record {
          blocks_are = s.blocks ∙ wide.blocks_are;
          buckets_are = s.buckets ∙ wide.buckets_are;
        })) (λ unused. inr (
          unused.0,
          λ slot. s.each slot ∙ ap (option_map (kept_key l.table slot)) (unused.1 slot),
        )) s.stored.weak_room);
  }

  handles_left : (slot : ℕ) → get (state_of (left_parts f l w)).handles slot
      ≡ option_map (cleared by_rows.reach by_rows.kept) (get (state_of f).handles slot)
  handles_left slot =
      handles-get l.heap l.table.rows w.held slot
      ∙ (λ i. cond (is_none (s.each slot i)) (by_rows.handles slot i) None)
      ∙ by (get f.weak.held slot)
      ∙ ap (option_map (cleared by_rows.reach by_rows.kept))
      (sym (handles-get f.heap f.table.rows f.weak.held slot))
    where
      by : (o : Option (Option Id)) → cond (is_none (option_map (kept_key l.table slot) o))
          (option_map (cleared by_rows.reach by_rows.kept)
          (option_map (rename_handle (id_at f.heap)) (get f.table.rows slot))) None
          ≡ option_map (cleared by_rows.reach by_rows.kept) (cond (is_none o)
          (option_map (rename_handle (id_at f.heap)) (get f.table.rows slot)) None)
      by None = refl
      by (Some key) = refl

  -- the same between the scenes of the machine's states
  abbrev between : Scene Id → Scene Id → Type 0
  between u v = (by : Collects (λ (x : Id). x.0) n u v report)
      × ((by.reach ≡ by_rows.reach) × (by.kept ≡ by_rows.kept))

  by_state : between (scene_of (state_of f)) (scene_of (state_of (left_parts f l w)))
  by_state =
      subst (λ u. between u (scene_of (state_of (left_parts f l w)))) (scene-read f s.stored)
      (subst (between (scene_by_id f s.stored.identities))
      (scene-read (left_parts f l w) stored-left) (by_rows, (refl, refl)))

  -- a pinned address that is kept
  pub address-kept : (p : FinMap nat_cmp ℕ) (x : ℕ)
      → get (kept_pinned (state_of f) p) x ≡ cond (is_pinned (state_of f).handles x) (get p x) None
  address-kept p x =
      get-retain_keys p (is_pinned (state_of f).handles) x
      (λ y same. ap (is_pinned (state_of f).handles) (sym (nat_cmp-IsAntisymmetric x y same)))

  collects_state : (p : FinMap nat_cmp ℕ) → CollectsState n (with_pinned (state_of f) p)
      (with_pinned (state_of (left_parts f l w)) (kept_pinned (state_of f) p)) report
  collects_state p = record {
    scene = by_state.0;
    handles = λ slot. handles_left slot ∙ (λ i. option_map (cleared (sym by_state.1.0 i) (sym by_state.1.1 i))
        (get (state_of f).handles slot));
    weak = λ slot. weak_left slot
        ∙ (λ i. option_map (swept (sym by_state.1.1 i)) (get (state_of f).weak slot));
    pinned = address-kept p;
    registers = ap (rows_of (callers_of f)) named_same;
    statics = ap (rest_of (callers_of f)) named_same;
    handle_registers = refl;
    board = refl;
    blocks = s.done.table.uses;
    serials = refl;
  }

  -- a pinned object stays at its address
  pinned_there : (a x : ℕ) → is_pinned (state_of f).handles x ≡ true
      → get (names_of f.heap) a ≡ Some (record { 0 = x }) → get (names_of l.heap) a ≡ Some (record { 0 = x })
  pinned_there a x pinned named =
      let at : Addr = record { 0 = a } in
      let id : Id = record { 0 = x } in
      let by_id = (pinned_decides (state_of f).handles id).0 pinned in
      let (row, was) = unread (id_at f.heap) (get f.table.rows by_id.slot) by_id.handle
      (handle-row f.heap f.table.rows f.weak.held by_id.slot by_id.handle by_id.is_stored) in
      let (y, to) = unnamed (id_at f.heap) row.target id
      (ap (λ (k : Handle Id). k.target) was.1 ∙ by_id.target) in
      let (p, mine) = named_at f.heap a id named in
      let here : has_object f.heap at ≡ true =
      ap (λ o. is_some (option_map (Rattle.hd_model.specs.Heap.object_in
      (Rattle.hd_model.specs.Heap.region_generation f.heap (Rattle.hd_model.specs.Heap.region_of at))) o))
      mine.0 in
      let same : y ≡ at = apart_here f s.stored.identities y at
      (s.stored.whole.targets by_id.slot row y was.0 to.0) here (to.1 ∙ sym (ap id_in mine.0 ∙ mine.1)) in
      let pinning : IsPinned (row_at f.table) at = record {
        slot = by_id.slot;
        handle = row;
        is_stored = was.0;
        pins = sym (pins_renamed (id_at f.heap) row) ∙ ap pins was.1 ∙ by_id.pins;
        target = to.0 ∙ ap Some same;
      } in
      let left = s.done.pinned at pinning in
      names-get l.heap a ∙ ap (option_map (λ (w : Placed). w.id)) (placed_is l.heap at left.0)
      ∙ ap Some (sym (ap id_in (placed_is l.heap at left.0)) ∙ left.1 ∙ ap id_in mine.0 ∙ mine.1)

  addresses_left : (p : FinMap nat_cmp ℕ) → AreAddresses (names_of f.heap) p
      → AreAddresses (names_of l.heap) (kept_pinned (state_of f) p)
  addresses_left p are x a is =
      let (pinned, was) = kept_if (is_pinned (state_of f).handles x) (get p x) a
      (sym (address-kept p x) ∙ is) in
      pinned_there a x pinned (are x a was)

  left_for : HasCollected (machine_of f) (machine_of (left_parts f l w)) n report
  left_for = record {
    numbers = λ i. record { heap = s.done.limit i; blocks = s.done.table.blocks i; callers = callers_of f };
    ages = s.done.aged;
    collects = collects_state;
    addresses = addresses_left;
    cards = λ card. (
      λ set. let k = (s.done.cards card).0 set in
          record { from = k.from; to = k.to; in_card = k.in_card; field = k.field; younger = k.younger },
      λ k. (s.done.cards card).1 (record {
        from = k.from;
        to = k.to;
        in_card = k.in_card;
        field = k.field;
        younger = k.younger;
      }),
    );
    compact = λ two. compact-store (left_parts f l w) stored-left (s.done.compact two);
  }

  -- in the words of the machine
  pub has-collected : (m : Machine) → machine_of f ≡ m
      → HasCollected m (machine_of (left_parts f l w)) n report
  has-collected m view = subst (λ (v : Machine). HasCollected v (machine_of (left_parts f l w)) n
      report) view left_for

-- a collection that ran out of memory may have taken free regions
module _ (f : Parts) (free : List ℕ) where
  stored-free : IsStored f → IsStored (record f { heap = record f.heap { free = free } })
  stored-free stored = record {
    whole = stored.whole;
    identities = stored.identities;
    ages = stored.ages;
    cards = stored.cards;
    full = λ r held. let s = stored.full r held in record { at = s.at; object = s.object; region = s.region };
    room = stored.room;
    within = stored.within;
    limit = stored.limit;
    roots = stored.roots;
    serials = stored.serials;
    clumps = stored.clumps;
    blocks = stored.blocks;
    uses = stored.uses;
    tied = λ slot key is. tied-agrees f (record f { heap = record f.heap { free = free } }) slot key
        (stored.tied slot key is) refl (λ x e. refl);
    weak_room = stored.weak_room;
  }

  machine-free : machine_of (record f { heap = record f.heap { free = free } }) ≡ machine_of f
  unfolding names_of objects_by_id rows_by_id weak_by_id
  machine-free = refl

-- a slice of all items that was lent comes back whole
pub lent : {A : Type 0} (xs ys : List A) (n : ℕ) → n ≡ length ys → length xs ≡ length ys
    → take n (xs ++ drop (length xs) ys) ≡ xs
lent [] [] n e same = ap (λ k. take k []) e
lent [] (y ∷ ys) n e same = absurd (omega (arith, same))
lent (x ∷ xs) [] n e same = absurd (omega (arith, same))
lent (x ∷ xs) (y ∷ ys) n e same =
    ap (λ k. take k ((x ∷ xs) ++ drop (length (x ∷ xs)) (y ∷ ys))) e
    ∙ ap (λ zs. x ∷ zs) (lent xs ys (length ys) refl (omega (arith, same)))

-- a collection that ran out of memory leaves all as it was, but that it may have taken free regions
abbrev pub IsUncollected : Parts → Lent → ℕ → ℕ → Type 0
IsUncollected f l before after =
    (l.heap ≡ record f.heap { free = l.heap.free }) × (l.table ≡ f.table) × (l.ages ≡ f.ages)
    × (l.queue ≡ f.queue) × (l.roots ≡ f.roots) × (after ≡ before)

module _ (f : Parts) (l : Lent) (before after : ℕ) (out : IsUncollected f l before after) where
  parts_same : left_parts f l f.weak ≡ record f { heap = record f.heap { free = l.heap.free } }
  parts_same = λ i. record f {
    heap = out.0 i;
    table = out.1 i;
    ages = out.2 i;
    queue = out.3 i;
    roots = out.4 i;
  }

  pub stored-out : IsStored f → IsStored (left_parts f l f.weak)
  stored-out stored = subst IsStored (sym parts_same) (stored-free f l.heap.free stored)

  pub machine-out : machine_of (left_parts f l f.weak) ≡ machine_of f
  machine-out = ap machine_of parts_same ∙ machine-free f l.heap.free
