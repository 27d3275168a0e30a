-- A step keeps a state well formed, so each state that a run reaches is.
use Rattle.hd_model.proofs.Basics.{AllPairs, Back, BlockUse, Bool, Cmd, Contains, Entry, Extra, FIELDS, FitsKind, Grown, Handle, Id, IsSome, IsValid, IsWellFormed, Kind, List, Make, MayGive, Names, None, Numbers, OLDEST, Object, One, Option, REGISTERS, ROWS, Run, Slot, Some, State, Step, Two, WeakEntry, Zero, [], ap, arith, empty, extra_data, false, field_of, first_slot, fresh_object, get, get-empty, get_or, get_or-replicate, get_or-set_same, handle_at, handles_of, is_some, kind_of, last_serial, le_of_eq, length, length-replicate, length-set, lit<, made_extra, made_handle, nat_cmp, none-some, object_by_id, option_and_then, refl, register_of, same_Some, secondary_of, secondary_register, start_of, subst, sym, true, true≢false, unwrap_or, use_of, with_entry, with_growth, with_handle, with_handle_register, with_object, with_queue, with_register, with_serial, with_use, without_handle, ℕ, ⊎_elim, ◌%◌, ◌*◌, ◌+◌, ◌/◌, ◌<◌, ◌^◌, ◌∙◌, ◌≡◌, ◌≢◌, ◌≤◌}
use Rattle.hd_model.proofs.ReadAfterWrite.{set_cases, replicate_cases, get_inserted, get_beside, still_some}
use Rattle.hd_model.proofs.KindTests.{without_secondary_fits, without_secondary_has_none, made_fits, made_secondary}
use Rattle.hd_model.proofs.WellFormedWrites.{names_more, register_keeps, handle_register_keeps, static_keeps, board_keeps, object_keeps, serial_keeps, handle_keeps, removal_keeps, use_keeps, without_use_keeps, weak_keeps, live_not_weak, queue_keeps, address_keeps}
use Rattle.hd_model.proofs.Members.{first_in, later_in, pairs_rest}
use Rattle.hd_model.proofs.{MapEntries.none_from, MapEntries.some_value, WeakSlots.HasNoKey, StepChains.chain_keeps, WellFormedCollection.collection_keeps_well_formed}
use Rattle.hd_model.proofs.Effects.{Effect, Finds, growth_is, refused, makes_object, sets_field, gets_field, sets_value, reads_value, copies, clears, puts_static, gets_static, reads_generation, suppresses, reregisters, finds_none, takes_first, collects, makes_handle, gets_target, sets_target, sets_secondary, gets_secondary, sets_strength, raises_count, lowers_count, frees_handle, puts_board, picks_board, replies_address, gives_back, gives_none, MayHold, adds_entry, finds_value, finds_no_entry, removes_entry, removes_none, effect, next_identity}
use Rattle.hd_model.specs.declared.data.Kind.TheVariants as kind
use Rattle.hd_model.proofs.Effects.{replies_root}

or_else : {A : Type 0} (o : Option A) (d : A) → IsSome o → o ≡ Some (unwrap_or o d)
or_else None d h = cc
or_else (Some x) d h = refl

-- the identity of an object leads to the object
pub some_at : (s : State) (id : Id) → IsSome (get s.objects id.0)
    → get s.objects id.0 ≡ Some (object_by_id s id)
some_at s id h = or_else (get s.objects id.0) _ h

-- a register that references an object of a well formed state
pub has : (n : Numbers) (s : State) (c o : ℕ) (id : Id) → IsWellFormed n s → register_of s c o ≡ Some id
    → IsSome (get s.objects id.0)
has n s c o id w e = subst (Names s) e (w.names.registers c o)

and_then_names : (s : State) (o v : Option Id) → Names s v → Names s (option_and_then (λ _. v) o)
and_then_names s None v h = tt
and_then_names s (Some id) v h = h

made_named : (n : Numbers) (s : State) → IsWellFormed n s → (c : ℕ) (given : Make) (t : ℕ)
    → Names s (secondary_of (made_extra s c given t))
made_named n s w c given t =
    subst (Names s) (sym (made_secondary s c given t)) (by (secondary_register given))
  where
    by : (o : Option ℕ) → Names s (option_and_then (λ r. option_and_then (λ _. register_of s c r)
        (register_of s c t)) o)
    by None = tt
    by (Some r) = and_then_names s (register_of s c t) (register_of s c r) (w.names.registers c r)

-- a made handle without a target has no secondary
made_paired : (s : State) (c : ℕ) (given : Make) (t : ℕ) → register_of s c t ≡ None
    → secondary_of (made_extra s c given t) ≡ None
made_paired s c given t e = made_secondary s c given t ∙ by (secondary_register given)
  where
    by : (o : Option ℕ)
        → option_and_then (λ r. option_and_then (λ _. register_of s c r) (register_of s c t)) o ≡ None
    by None = refl
    by (Some r) = ap (option_and_then (λ _. register_of s c r)) e

pub first_block : (block : ℕ) → block * ROWS / ROWS ≡ block
first_block block = omega arith

at_first : (s : State) (given : Kind) (block : ℕ) (slot : Slot) → use_of s block ≡ Some (handles_of given)
    → slot ≡ first_slot block → use_of s (slot.0 / ROWS) ≡ Some (handles_of given)
at_first s given block slot used e = subst (λ b. use_of s b ≡ Some (handles_of given))
    (sym (ap (λ (x : Slot). x.0 / ROWS) e ∙ first_block block)) used

-- after the growth of the table the slot is in a block of its kind
growth_keeps : (n : Numbers) (s : State) → IsWellFormed n s → (given : Kind) (grown : Grown) (slot : Slot)
    → MayGive n s given grown slot → IsWellFormed n (with_growth s given grown)
    × (use_of (with_growth s given grown) (slot.0 / ROWS) ≡ Some (handles_of given))
growth_keeps n s w given Zero slot may = (w, may.of_kind)
growth_keeps n s w given (One block) slot may = (
  use_keeps n s w block (handles_of given) may.1.unused may.1.low may.1.high,
  at_first (with_use s block (handles_of given)) given block slot
      (get_inserted s.blocks block (handles_of given)) may.2,
)
growth_keeps n s w given (Two block other) slot may =
    let s1 : State = with_use s block (handles_of given) in
    let w1 : IsWellFormed n s1 = use_keeps n s w block (handles_of given) may.1.unused may.1.low may.1.high in
    let low : block + 1 ≤ other = may.2.low in
    let ne : other ≢ block = omega arith in
    let ne' : block ≢ other = omega arith in (
      use_keeps n s1 w1 other extra_data (get_beside s.blocks block (handles_of given) other ne
          ∙ may.2.unused) (omega arith) may.2.high,
      at_first (with_use s1 other extra_data) given block slot
          (get_beside s1.blocks other extra_data block ne' ∙ get_inserted s.blocks block (handles_of given))
          may.3,
    )
growth_keeps n s w given (Back block) slot may = absurd may

-- a slot that may be given holds no handle, and is none of the weak table's
module _ (n : Numbers) (s : State) (w : IsWellFormed n s) where
  at_unused : (block : ℕ) (slot : Slot) → use_of s block ≡ None
      → slot ≡ first_slot block → (given : BlockUse) → use_of s (slot.0 / ROWS) ≡ Some given → ⊥
  at_unused block slot unused first given used =
      let here : slot.0 / ROWS ≡ block = ap (λ (x : Slot). x.0 / ROWS) first ∙ first_block block in
      none-some given (sym unused ∙ ap (use_of s) (sym here) ∙ used)

  unused_vacant : (block : ℕ) (slot : Slot) → use_of s block ≡ None → slot ≡ first_slot block
      → (handle_at s slot ≡ None) × (get s.weak slot.0 ≡ None)
  unused_vacant block slot unused first = (
    none_from (handle_at s slot) (λ h.
        let (handle, is) = some_value (handle_at s slot) h in
        at_unused block slot unused first (handles_of handle.kind) (w.handles.kinds slot.0 handle is)),
    none_from (get s.weak slot.0) (λ h.
        at_unused block slot unused first (handles_of kind.Dependent) (w.weak.kinds slot.0 h)),
  )

  given_free : (wanted : Kind) (grown : Grown) (slot : Slot) → MayGive n s wanted grown slot
      → (handle_at s slot ≡ None) × (get s.weak slot.0 ≡ None)
  given_free wanted Zero slot may = (may.no_handle, may.not_weak)
  given_free wanted (One block) slot may = unused_vacant block slot may.1.unused may.2
  given_free wanted (Two block other) slot may = unused_vacant block slot may.1.unused may.3
  given_free wanted (Back block) slot may = absurd may

  pub given_vacant : (wanted : Kind) (grown : Grown) (slot : Slot) → MayGive n s wanted grown slot
      → handle_at s slot ≡ None
  given_vacant wanted grown slot may = (given_free wanted grown slot may).0

  pub given_not_weak : (wanted : Kind) (grown : Grown) (slot : Slot) → MayGive n s wanted grown slot
      → get s.weak slot.0 ≡ None
  given_not_weak wanted grown slot may = (given_free wanted grown slot may).1

module _ (n : Numbers) (s : State) (w : IsWellFormed n s) (e : Entry) (l : e.caller < n.callers) where
  field_named : (id : Id) → IsSome (get s.objects id.0) → (i : ℕ) → Names s (field_of (object_by_id s id) i)
  field_named id h i = w.names.fields id.0 (object_by_id s id) (some_at s id h) i

  -- an object replaced by another of the same size and generation
  write_keeps : (o : ℕ) (id : Id) (object : Object Id) → register_of s e.caller o ≡ Some id
      → ((i : ℕ) → Names s (field_of object i)) → length object.fields ≡ length (object_by_id s id).fields
      → object.generation ≡ (object_by_id s id).generation → IsWellFormed n (with_object s id object)
  write_keeps o id object named fields size same =
      let h : IsSome (get s.objects id.0) = has n s e.caller o id w named in
      object_keeps n s w id object (λ i. names_more s (with_object s id object)
      (still_some s.objects id.0 object) _ (fields i))
      (subst (λ g. g ≤ FIELDS) (sym size) (w.objects.sizes id.0 (object_by_id s id) (some_at s id h)))
      (subst (λ g. g ≤ OLDEST) (sym same) (w.objects.generations id.0 (object_by_id s id) (some_at s id h)))
      (w.serials.from_one id.0 h) (w.serials.to_last id.0 h)

  -- the same object but for its value and its registration
  rewrite_keeps : (o : ℕ) (id : Id) (v : ℕ) (registered : Bool) → register_of s e.caller o ≡ Some id
      → IsWellFormed n (with_object s id (record (object_by_id s id) { value = v; registered = registered }))
  rewrite_keeps o id v registered named =
      write_keeps o id _ named (field_named id (has n s e.caller o id w named)) refl refl

  new_keeps : (d fields : ℕ) (fin : Bool) → fields ≤ FIELDS → last_serial s e.caller + 1 < 2 ^ 32
      → IsWellFormed n (with_register (with_serial (with_object s (next_identity s e.caller)
      (fresh_object fields fin)) e.caller (last_serial s e.caller + 1)) e.caller d
      (Some (next_identity s e.caller)))
  new_keeps d fields fin few small =
      let c : ℕ = e.caller in
      let serial : ℕ = last_serial s c + 1 in
      let id : Id = next_identity s c in
      let object : Object Id = fresh_object fields fin in
      let s1 : State = with_serial s c serial in
      let s2 : State = with_object s1 id object in
      let w1 : IsWellFormed n s1 = serial_keeps n s w c serial (omega arith) small in
      let owner : id.0 / 2 ^ 32 ≡ c = omega arith in
      let number : id.0 % 2 ^ 32 ≡ serial = omega arith in
      let last : last_serial s1 c ≡ serial = get_or-set_same s.serials c serial 0
      (subst (λ k. c < k) (sym w.shape.serials) l) in
      let high : id.0 % 2 ^ 32 ≤ last_serial s1 (id.0 / 2 ^ 32) =
      subst (λ k. id.0 % 2 ^ 32 ≤ last_serial s1 k) (sym owner) (le_of_eq (number ∙ sym last)) in
      let size : length object.fields ≤ FIELDS = subst (λ k. k ≤ FIELDS)
      (sym (length-replicate fields None)) few in
      let w2 : IsWellFormed n s2 = object_keeps n s1 w1 id object
      (λ i. replicate_cases (Names s2) fields i None None tt tt) size (omega arith) (omega arith) high in
      register_keeps n s2 w2 c d (Some id) l (ap is_some (get_inserted s.objects id.0 object))

  made_keeps : (d : ℕ) (given : Make) (t : ℕ) (slot : Slot) → MayGive n s (kind_of given) e.grown slot
      → IsWellFormed n (with_handle_register (with_handle
      (record s { blocks = (with_growth s (kind_of given) e.grown).blocks }) slot
      (made_handle s e.caller given t)) e.caller d (Some slot))
  made_keeps d given t slot may =
      let wanted : Kind = kind_of given in
      let s1 : State = record s { blocks = (with_growth s wanted e.grown).blocks } in
      let made : Handle Id = made_handle s e.caller given t in
      let grows = growth_keeps n s w wanted e.grown slot may in
      let w1 : IsWellFormed n s1 = subst (IsWellFormed n) (growth_is s wanted e.grown) grows.0 in
      let w2 : IsWellFormed n (with_handle s1 slot made) =
      handle_keeps n s1 w1 slot made (given_not_weak n s w wanted e.grown slot may)
      (w.names.registers e.caller t)
      (made_named n s w e.caller given t) grows.1 (made_fits s e.caller given t)
      (made_paired s e.caller given t) in
      handle_register_keeps n (with_handle s1 slot made) w2 e.caller d (Some slot) l

  -- a handle with another extra of its kind
  extra_keeps : (h : ℕ) (slot : Slot) (handle : Handle Id) (extra : Extra Id) → Finds s e.caller h slot handle
      → FitsKind handle.kind extra → Names s (secondary_of extra)
      → (handle.target ≡ None → secondary_of extra ≡ None)
      → IsWellFormed n (with_handle s slot (record handle { extra = extra }))
  extra_keeps h slot handle extra f fits named paired =
      handle_keeps n s w slot _ (live_not_weak s w.weak slot.0 handle f.live)
      (w.names.targets slot.0 handle f.live) named (w.handles.kinds slot.0 handle f.live) fits paired

  -- an entry with a key that no other has, in a slot that the weak table holds or may get
  added_keeps : (k v : ℕ) (key : Id) (slot : Slot) → register_of s e.caller k ≡ Some key → HasNoKey s key
      → MayHold n s e.grown slot
      → IsWellFormed n (with_entry (record s { blocks = (with_growth s kind.Dependent e.grown).blocks }) s
      e.caller v slot key)
  added_keeps k v key slot f none may =
      let room : State = record s { blocks = (with_growth s kind.Dependent e.grown).blocks } in
      let put : WeakEntry Id = record { key = key; value = register_of s e.caller v } in
      let named : (x : WeakEntry Id) → Some put ≡ Some x → Names s (Some x.key) × Names s x.value = λ x is.
      subst (λ (y : WeakEntry Id). Names s (Some y.key) × Names s y.value) (same_Some put x is)
      (has n s e.caller k key w f, w.names.registers e.caller v) in
      let alone : (x : WeakEntry Id) → Some put ≡ Some x → (q : ℕ) (d : WeakEntry Id)
      → get s.weak q ≡ Some (Some d) → d.key ≡ x.key → q ≡ slot.0 = λ x is q d at same.
      absurd (none q d at (same ∙ ap (λ (y : WeakEntry Id). y.key) (sym (same_Some put x is)))) in
      ⊎_elim
      (λ idle. let held : IsSome (get s.weak slot.0) = ap is_some idle.0 in
      let same : s ≡ room = ap (λ g. record s { blocks = (with_growth s kind.Dependent g).blocks })
      (sym idle.1)
      in weak_keeps n room (subst (IsWellFormed n) same w) slot (Some put) named alone
      (ap (λ (x : State). use_of x (slot.0 / ROWS)) (sym same) ∙ w.weak.kinds slot.0 held)
      (w.weak.apart slot.0 held))
      (λ give. let grows = growth_keeps n s w kind.Dependent e.grown slot give in
      weak_keeps n room (subst (IsWellFormed n) (growth_is s kind.Dependent e.grown) grows.0) slot (Some put)
      named alone grows.1 (given_vacant n s w kind.Dependent e.grown slot give))
      may

  effect_keeps : (c : Cmd) (t : State) → IsValid c → Effect n s e c t → IsWellFormed n t
  effect_keeps c t v (refused p) = w
  effect_keeps c t v (makes_object {d = d} {fields = fields} {fin = fin} small p) =
      new_keeps d fields fin v.1 small
  effect_keeps c t v (sets_field {o = o} {i = i} {v = r} id f within p) =
      write_keeps o id _ f
      (λ j. set_cases (Names s) (object_by_id s id).fields i j (register_of s e.caller r) None
      (λ _. w.names.registers e.caller r) (field_named id (has n s e.caller o id w f) j))
      (length-set (object_by_id s id).fields i (register_of s e.caller r)) refl
  effect_keeps c t v (gets_field {d = d} {o = o} {i = i} id f within p) =
      register_keeps n s w e.caller d _ l (field_named id (has n s e.caller o id w f) i)
  effect_keeps c t v (sets_value {o = o} {v = x} id f p) =
      rewrite_keeps o id x (object_by_id s id).registered f
  effect_keeps c t v (reads_value id f p) = w
  effect_keeps c t v (copies {d = d} {r = r} p) =
      register_keeps n s w e.caller d _ l (w.names.registers e.caller r)
  effect_keeps c t v (clears {d = d} p) = register_keeps n s w e.caller d None l tt
  effect_keeps c t v (puts_static {k = k} {r = r} p) = static_keeps n s w k _ (w.names.registers e.caller r)
  effect_keeps c t v (gets_static {d = d} {k = k} p) = register_keeps n s w e.caller d _ l (w.names.statics k)
  effect_keeps c t v (reads_generation id f p) = w
  effect_keeps c t v (suppresses {o = o} id f p) = rewrite_keeps o id (object_by_id s id).value false f
  effect_keeps c t v (reregisters {o = o} id f p) = rewrite_keeps o id (object_by_id s id).value true f
  effect_keeps c t v (finds_none {d = d} p) = register_keeps n s w e.caller d None l tt
  effect_keeps c t v (takes_first {d = d} id rest is p) =
      register_keeps n (with_queue s rest) (queue_keeps n s w rest
      (λ x h. w.names.queue x (subst (λ (q : List Id). Contains q x) (sym is) (later_in id rest x h)))
      (pairs_rest (λ x y. x ≢ y) id rest (subst (AllPairs (λ (x y : Id). x ≢ y)) is w.objects.queued_once)))
      e.caller d (Some id) l
      (w.names.queue id (subst (λ (q : List Id). Contains q id) (sym is) (first_in id rest)))
  effect_keeps c t v (collects {k = k} did) = collection_keeps_well_formed n k s t did.report w did.collects
  effect_keeps c t v (makes_handle {d = d} {t = r} {given = given} slot given_is may p) =
      made_keeps d given r slot may
  effect_keeps c t v (gets_target {d = d} slot handle f p) =
      register_keeps n s w e.caller d handle.target l (w.names.targets slot.0 handle f.live)
  effect_keeps c t v (sets_target {t = r} slot handle f p) =
      handle_keeps n s w slot _ (live_not_weak s w.weak slot.0 handle f.live) (w.names.registers e.caller r)
      (subst (Names s) (sym (without_secondary_has_none handle.extra)) tt)
      (w.handles.kinds slot.0 handle f.live)
      (without_secondary_fits handle.kind handle.extra (w.handles.extras slot.0 handle f.live))
      (λ _. without_secondary_has_none handle.extra)
  effect_keeps c t v (sets_secondary {h = h} {r = r} slot handle f same target p) =
      extra_keeps h slot handle _ f same (w.names.registers e.caller r)
      (λ none. absurd (true≢false (sym target ∙ ap is_some none)))
  effect_keeps c t v (gets_secondary {d = d} slot handle f p) =
      register_keeps n s w e.caller d _ l (w.names.secondaries slot.0 handle f.live)
  effect_keeps c t v (sets_strength {h = h} slot handle f same p) =
      extra_keeps h slot handle _ f same tt (λ _. refl)
  effect_keeps c t v (raises_count {h = h} slot handle f same p) =
      extra_keeps h slot handle _ f same tt (λ _. refl)
  effect_keeps c t v (lowers_count {h = h} slot handle f same p) =
      extra_keeps h slot handle _ f same tt (λ _. refl)
  effect_keeps c t v (frees_handle {h = h} slot handle f p q) =
      handle_register_keeps n (without_handle s slot) (removal_keeps n s w slot) e.caller h None l
  effect_keeps c t v (puts_board {k = k} p) = board_keeps n s w k _
  effect_keeps c t v (picks_board {d = d} p) = handle_register_keeps n s w e.caller d _ l
  effect_keeps c t v (replies_address slot handle id p f target may r) =
      address_keeps n s w id p (subst (Names s) target (w.names.targets slot.0 handle f.live))
  effect_keeps c t v (gives_back block free p) =
      without_use_keeps n s w block (λ slot here. (free (record { 0 = slot }) here).no_handle)
      (λ slot here. (free (record { 0 = slot }) here).not_weak)
  effect_keeps c t v (gives_none p) = w
  effect_keeps c t v (adds_entry {k = k} {v = r} key slot f none may p q) = added_keeps k r key slot f none
      may
  effect_keeps c t v (finds_value {d = d} key slot x f p) =
      register_keeps n s w e.caller d x.entry.value l (w.names.values slot.0 x.entry x.held)
  effect_keeps c t v (finds_no_entry {d = d} key f none p) = register_keeps n s w e.caller d None l tt
  effect_keeps c t v (removes_entry key slot x f p) =
      weak_keeps n s w slot None (λ y no. absurd (none-some y no)) (λ y no. absurd (none-some y no))
      (w.weak.kinds slot.0 (ap is_some x.held)) (w.weak.apart slot.0 (ap is_some x.held))
  effect_keeps c t v (removes_none key f none p) = w
  effect_keeps c t v (replies_root goal f is_root) = w

pub step_keeps : (n : Numbers) (s t : State) (e : Entry) → IsWellFormed n s → Step n s e t → IsWellFormed n t
step_keeps n s t e w step = effect_keeps n s w e step.caller e.cmd t step.valid (effect n s e t step)

nothing_at : {A : Type 0} (q : ℕ) (x : A) → get (empty {X = A} {R = nat_cmp}) q ≡ Some x → ⊥
nothing_at q x e = none-some x (sym (get-empty nat_cmp q) ∙ e)

none_has : (A : Type 0) (q : ℕ) → IsSome (get (empty {X = A} {R = nat_cmp}) q) → ⊥
none_has A q h = absurd (true≢false (sym (subst IsSome (get-empty nat_cmp q) h)))

pub start_is_well_formed : (n : Numbers) → IsWellFormed n (start_of n)
start_is_well_formed n = record {
  shape = record {
    registers = length-replicate n.callers _;
    each_registers = λ c l. ap length (get_or-replicate n.callers c _ [] l);
    handle_registers = length-replicate n.callers _;
    each_handle_registers = λ c l. ap length (get_or-replicate n.callers c _ [] l);
    statics = refl;
    board = refl;
    serials = length-replicate n.callers _;
  };
  names = record {
    fields = λ id object e. absurd (nothing_at id object e);
    registers = λ c d. replicate_cases (λ row. Names (start_of n) (get_or row d None)) n.callers c _ []
        (replicate_cases (Names (start_of n)) REGISTERS d None None tt tt) tt;
    statics = λ k. replicate_cases (Names (start_of n)) REGISTERS k None None tt tt;
    targets = λ slot handle e. absurd (nothing_at slot handle e);
    secondaries = λ slot handle e. absurd (nothing_at slot handle e);
    queue = λ id h. absurd (omega (arith, h.1));
    pinned = λ id h. absurd (none_has _ id h);
    keys = λ slot x e. absurd (nothing_at slot (Some x) e);
    values = λ slot x e. absurd (nothing_at slot (Some x) e);
  };
  objects = record {
    sizes = λ id object e. absurd (nothing_at id object e);
    generations = λ id object e. absurd (nothing_at id object e);
    queued_once = λ i j d l h. absurd (omega arith);
  };
  serials = record {
    from_one = λ id h. absurd (none_has _ id h);
    to_last = λ id h. absurd (none_has _ id h);
    limit = λ c. replicate_cases (λ x. x < 2 ^ 32) n.callers c 0 0 (lit< tt) (lit< tt);
  };
  handles = record {
    kinds = λ slot handle e. absurd (nothing_at slot handle e);
    extras = λ slot handle e. absurd (nothing_at slot handle e);
    dependents = λ slot handle e. absurd (nothing_at slot handle e);
    blocks = λ block h. absurd (none_has _ block h);
  };
  weak = record {
    kinds = λ slot h. absurd (none_has _ slot h);
    apart = λ slot h. absurd (none_has _ slot h);
    once = λ i j d e at_i at_j same. absurd (nothing_at i (Some d) at_i);
  };
}

pub run_is_well_formed : (n : Numbers) (journal : List Entry) (s : State) → Run n journal s → IsWellFormed n s
run_is_well_formed n journal s run = chain_keeps (IsWellFormed n)
    (λ x e y step w. step_keeps n x y e w step) run (start_is_well_formed n)
