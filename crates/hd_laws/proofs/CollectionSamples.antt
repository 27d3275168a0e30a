-- The sample states meet what the laws of collections ask for.
use Rattle.hd_model.specs.{declared.data.Id.Id, declared.limits.TheConstants.REGISTERS, declared.data.Report.Report}
use Rattle.hd_model.proofs.Basics.{CollectsState, Handle, HasSoundAges, IsInUse, IsLedTo, IsOlder, IsResurrected, IsSome, IsUsed, IsWellFormed, Names, None, Object, Some, State, WeakEntry, [], age_of, ap, arith, by_dependent, by_field, by_handle, empty, false, false≢true, field_of, from_start, generation_at, generation_in, get, get-empty, get_or, handles_of, holds, in_queue, in_register, in_static, inl, inr, is_paired, is_some, nat_cmp, none-some, refl, replicate, role, row_of, same_Some, scene_of, secondary_of, start_of, subst, suc, sym, true, with_handle, with_object, with_serial, with_use, with_weak, without_handle, zero, ℕ, ⊎_elim, ◌<◌, ◌∙◌, ◌∷◌, ◌≡◌, ◌≢◌, ◌≤◌, ◌⊎◌}
use Rattle.hd_laws.specs.CollectionSamples.{few, id_of, slot_of, object_with, weak_to, made_one, with_blocks, calm, with_objects, attaching, busy, entry_of_one, entered, ages_of_busy, PremisesAreMet}
use Rattle.hd_model.proofs.{Members.not_in_none, PropertyCounts.counts_zero, WeakSlots.handle_row, WeakSlots.row_cases, WellFormedSteps.start_is_well_formed, MapEntries.none_from, MapEntries.some_value, EntryKeys.taken_out, ReachTests.is_holding}
use Rattle.hd_laws.proofs.{NextState.collections_exist}
use Rattle.hd_model.proofs.ReadAfterWrite.{cell_cases, replicate_cases, get_inserted, get_beside, insert_all}
use Rattle.hd_model.proofs.WellFormedWrites.{register_keeps, object_keeps, handle_keeps, removal_keeps, use_keeps, serial_keeps, weak_keeps}
use Rattle.hd_model.specs.declared.data.Kind.TheVariants as kind

-- a chain from what has a property that edges keep leads to what has it
pub led_within : (s : State) (S P : Id → Type 0) → ((x : Id) → S x → P x)
    → ((x y : Id) (object : Object Id) (i : ℕ) → P x → get s.objects x.0 ≡ Some object
    → field_of object i ≡ Some y → P y)
    → ((x y : Id) (slot : ℕ) (h : Handle Id) → P x → row_of s slot ≡ Some h → h.kind ≡ kind.Dependent
    → h.target ≡ Some x → secondary_of h.extra ≡ Some y → P y)
    → {y : Id} → IsLedTo s S y → P y
led_within s S P starts fields seconds (from_start {x} h) = starts x h
led_within s S P starts fields seconds (by_field {x} {y} chain object i e f) =
    fields x y object i (led_within s S P starts fields seconds chain) e f
led_within s S P starts fields seconds (by_dependent {x} {y} chain slot h e is target second) =
    seconds x y slot h (led_within s S P starts fields seconds chain) e is target second

-- what an empty map has
pub none_there : {X : Type 0} (P : ℕ → X → Type 0) (k : ℕ) (x : X)
    → get (empty {X = X} {R = nat_cmp}) k ≡ Some x → P k x
none_there P k x e = absurd (none-some x (sym (get-empty nat_cmp k) ∙ e))

-- the states on the way
abbrev counted : State
counted = with_serial (start_of few) 0 5

abbrev with_one : State
with_one = with_object counted (id_of 1) (object_with [] 1 false)

counted_is : IsWellFormed few counted
counted_is = serial_keeps few (start_of few) (start_is_well_formed few) 0 5 (omega arith) (omega arith)

with_one_is : IsWellFormed few with_one
with_one_is = object_keeps few counted counted_is (id_of 1) (object_with [] 1 false) (λ i. tt) (omega arith)
    (omega arith) (omega arith) (omega arith)

made_one_is : IsWellFormed few made_one
made_one_is = register_keeps few with_one with_one_is 0 0 (Some (id_of 1)) (omega arith)
    (ap is_some (get_inserted counted.objects 1 (object_with [] 1 false)))

-- blocks of three kinds
abbrev one_block : State
one_block = with_use made_one 1 (handles_of kind.Short)

abbrev two_blocks : State
two_blocks = with_use one_block 2 (handles_of kind.Long)

one_block_is : IsWellFormed few one_block
one_block_is =
    use_keeps few made_one made_one_is 1 (handles_of kind.Short) (get-empty nat_cmp 1) (omega arith)
    (omega arith)

two_blocks_is : IsWellFormed few two_blocks
two_blocks_is = use_keeps few one_block one_block_is 2 (handles_of kind.Long)
    (get_beside made_one.blocks 1 (handles_of kind.Short) 2 (λ e. omega arith) ∙ get-empty nat_cmp 2)
    (omega arith) (omega arith)

with_blocks_is : IsWellFormed few with_blocks
with_blocks_is = use_keeps few two_blocks two_blocks_is 3 (handles_of kind.Dependent)
    (get_beside one_block.blocks 2 (handles_of kind.Long) 3 (λ e. omega arith)
    ∙ get_beside made_one.blocks 1 (handles_of kind.Short) 3 (λ e. omega arith) ∙ get-empty nat_cmp 3)
    (omega arith) (omega arith)

block_one : get with_blocks.blocks 1 ≡ Some (handles_of kind.Short)
block_one =
    get_beside two_blocks.blocks 3 (handles_of kind.Dependent) 1 (λ e. omega arith)
    ∙ get_beside one_block.blocks 2 (handles_of kind.Long) 1 (λ e. omega arith)
    ∙ get_inserted made_one.blocks 1 (handles_of kind.Short)

block_two : get with_blocks.blocks 2 ≡ Some (handles_of kind.Long)
block_two =
    get_beside two_blocks.blocks 3 (handles_of kind.Dependent) 2 (λ e. omega arith)
    ∙ get_inserted one_block.blocks 2 (handles_of kind.Long)

block_three : get with_blocks.blocks 3 ≡ Some (handles_of kind.Dependent)
block_three = get_inserted two_blocks.blocks 3 (handles_of kind.Dependent)

-- two handles to 1
one_there : IsSome (get calm.objects 1)
one_there = ap is_some (get_inserted counted.objects 1 (object_with [] 1 false))

abbrev with_short : State
with_short = with_handle with_blocks (slot_of 65) (weak_to kind.Short 1)

with_short_is : IsWellFormed few with_short
with_short_is = handle_keeps few with_blocks with_blocks_is (slot_of 65) (weak_to kind.Short 1)
    (get-empty nat_cmp 65) one_there tt block_one refl (λ e. refl)

calm_is : IsWellFormed few calm
calm_is = handle_keeps few with_short with_short_is (slot_of 129) (weak_to kind.Long 1)
    (get-empty nat_cmp 129) one_there tt block_two refl (λ e. refl)

-- four more objects
abbrev with_two : State
with_two = with_object calm (id_of 2) (object_with [] 0 false)

abbrev with_four : State
with_four = with_object with_two (id_of 4) (object_with [] 0 false)

abbrev pub leading : Object Id
leading = object_with (Some (id_of 4) ∷ []) 0 true

abbrev with_three : State
with_three = with_object with_four (id_of 3) leading

with_two_is : IsWellFormed few with_two
with_two_is = object_keeps few calm calm_is (id_of 2) (object_with [] 0 false) (λ i. tt) (omega arith)
    (omega arith) (omega arith) (omega arith)

with_four_is : IsWellFormed few with_four
with_four_is =
    object_keeps few with_two with_two_is (id_of 4) (object_with [] 0 false) (λ i. tt) (omega arith)
    (omega arith) (omega arith) (omega arith)

four_then : get with_three.objects 4 ≡ Some (object_with [] 0 false)
four_then =
    get_beside with_four.objects 3 leading 4 (λ e. omega arith)
    ∙ get_inserted with_two.objects 4 (object_with [] 0 false)

leads_to_four : (i : ℕ) → Names with_three (field_of leading i)
leads_to_four zero = ap is_some four_then
leads_to_four (suc i) = tt

with_three_is : IsWellFormed few with_three
with_three_is = object_keeps few with_four with_four_is (id_of 3) leading leads_to_four (omega arith)
    (omega arith) (omega arith) (omega arith)

with_objects_is : IsWellFormed few with_objects
with_objects_is = object_keeps few with_three with_three_is (id_of 5) (object_with [] 0 false) (λ i. tt)
    (omega arith) (omega arith) (omega arith) (omega arith)

-- what is found in the busy state
pub at_five : get busy.objects 5 ≡ Some (object_with [] 0 false)
at_five = get_inserted with_three.objects 5 (object_with [] 0 false)

pub at_three : get busy.objects 3 ≡ Some leading
at_three =
    get_beside with_three.objects 5 (object_with [] 0 false) 3 (λ e. omega arith)
    ∙ get_inserted with_four.objects 3 leading

at_four : get busy.objects 4 ≡ Some (object_with [] 0 false)
at_four = get_beside with_three.objects 5 (object_with [] 0 false) 4 (λ e. omega arith) ∙ four_then

at_two : get busy.objects 2 ≡ Some (object_with [] 0 false)
at_two =
    get_beside with_three.objects 5 (object_with [] 0 false) 2 (λ e. omega arith)
    ∙ get_beside with_four.objects 3 leading 2 (λ e. omega arith)
    ∙ get_beside with_two.objects 4 (object_with [] 0 false) 2 (λ e. omega arith)
    ∙ get_inserted calm.objects 2 (object_with [] 0 false)

pub at_one : get busy.objects 1 ≡ Some (object_with [] 1 false)
at_one =
    get_beside with_three.objects 5 (object_with [] 0 false) 1 (λ e. omega arith)
    ∙ get_beside with_four.objects 3 leading 1 (λ e. omega arith)
    ∙ get_beside with_two.objects 4 (object_with [] 0 false) 1 (λ e. omega arith)
    ∙ get_beside calm.objects 2 (object_with [] 0 false) 1 (λ e. omega arith)
    ∙ get_inserted counted.objects 1 (object_with [] 1 false)

pub all_objects : (P : ℕ → Object Id → Type 0) → P 1 (object_with [] 1 false) → P 2 (object_with [] 0 false)
    → P 4 (object_with [] 0 false) → P 3 leading → P 5 (object_with [] 0 false) → (k : ℕ) (o : Object Id)
    → get busy.objects k ≡ Some o → P k o
all_objects P one two four three five =
    insert_all with_three.objects 5 P (object_with [] 0 false) five
    (insert_all with_four.objects 3 P leading three
    (insert_all with_two.objects 4 P (object_with [] 0 false) four
    (insert_all calm.objects 2 P (object_with [] 0 false) two
    (insert_all counted.objects 1 P (object_with [] 1 false) one (none_there P)))))

-- its handles
abbrev with_64 : State
with_64 = with_handle with_objects (slot_of 64) (weak_to kind.Short 4)

abbrev with_128 : State
with_128 = with_handle with_64 (slot_of 128) (weak_to kind.Long 4)

abbrev with_80 : State
with_80 = with_handle with_128 (slot_of 80) (weak_to kind.Short 1)

with_64_is : IsWellFormed few with_64
with_64_is = handle_keeps few with_objects with_objects_is (slot_of 64) (weak_to kind.Short 4)
    (get-empty nat_cmp 64) (ap is_some at_four) tt block_one refl (λ e. refl)

with_128_is : IsWellFormed few with_128
with_128_is = handle_keeps few with_64 with_64_is (slot_of 128) (weak_to kind.Long 4)
    (get-empty nat_cmp 128) (ap is_some at_four) tt block_two refl (λ e. refl)

with_80_is : IsWellFormed few with_80
with_80_is = handle_keeps few with_128 with_128_is (slot_of 80) (weak_to kind.Short 1)
    (get-empty nat_cmp 80) (ap is_some at_one) tt block_one refl (λ e. refl)

pub busy_is : IsWellFormed few busy
busy_is = handle_keeps few with_80 with_80_is (slot_of 192) attaching (get-empty nat_cmp 192)
    (ap is_some at_one) (ap is_some at_five) block_three refl (λ e. absurd (none-some (id_of 1) (sym e)))

pub all_handles : (P : ℕ → Handle Id → Type 0) → P 65 (weak_to kind.Short 1) → P 129 (weak_to kind.Long 1)
    → P 64 (weak_to kind.Short 4) → P 128 (weak_to kind.Long 4) → P 80 (weak_to kind.Short 1)
    → P 192 attaching → (slot : ℕ) (h : Handle Id) → get busy.handles slot ≡ Some h → P slot h
all_handles P a b c d e f =
    insert_all with_80.handles 192 P attaching f
    (insert_all with_128.handles 80 P (weak_to kind.Short 1) e
    (insert_all with_64.handles 128 P (weak_to kind.Long 4) d
    (insert_all with_objects.handles 64 P (weak_to kind.Short 4) c
    (insert_all with_short.handles 129 P (weak_to kind.Long 1) b
    (insert_all with_blocks.handles 65 P (weak_to kind.Short 1) a (none_there P))))))

-- its weak table is empty, so its rows are its handles
pub row_is : (slot : ℕ) (h : Handle Id) → row_of busy slot ≡ Some h → get busy.handles slot ≡ Some h
row_is slot h e =
    ⊎_elim (λ live. live) (λ weak. absurd (none-some weak.1.0 (sym (get-empty nat_cmp slot) ∙ weak.1.1.0)))
    (row_cases busy slot h e)

at_64 : get busy.handles 64 ≡ Some (weak_to kind.Short 4)
at_64 =
    get_beside with_80.handles 192 attaching 64 (λ e. omega arith)
    ∙ get_beside with_128.handles 80 (weak_to kind.Short 1) 64 (λ e. omega arith)
    ∙ get_beside with_64.handles 128 (weak_to kind.Long 4) 64 (λ e. omega arith)
    ∙ get_inserted with_objects.handles 64 (weak_to kind.Short 4)

at_128 : get busy.handles 128 ≡ Some (weak_to kind.Long 4)
at_128 =
    get_beside with_80.handles 192 attaching 128 (λ e. omega arith)
    ∙ get_beside with_128.handles 80 (weak_to kind.Short 1) 128 (λ e. omega arith)
    ∙ get_inserted with_64.handles 128 (weak_to kind.Long 4)

at_192 : get busy.handles 192 ≡ Some attaching
at_192 = get_inserted with_80.handles 192 attaching

-- the state with an entry
free_193 : get busy.handles 193 ≡ None
free_193 = none_from (get busy.handles 193) (λ h.
    let (g, e) = some_value (get busy.handles 193) h in
    all_handles (λ k _. k ≡ 193 → ⊥) (λ e. omega arith) (λ e. omega arith) (λ e. omega arith)
    (λ e. omega arith) (λ e. omega arith) (λ e. omega arith) 193 g e refl)

pub entered_is : IsWellFormed few entered
entered_is =
    weak_keeps few busy busy_is (slot_of 193) (Some entry_of_one)
    (λ x is. subst (λ (y : WeakEntry Id). Names busy (Some y.key) × Names busy y.value)
    (same_Some entry_of_one x is) (ap is_some at_one, ap is_some at_five))
    (λ x is q d at same. absurd (none-some (Some d) (sym (get-empty nat_cmp q) ∙ at))) block_three free_193

pub held_193 : get entered.weak 193 ≡ Some (Some entry_of_one)
held_193 = get_inserted busy.weak 193 (Some entry_of_one)

-- what is in use in it: 1 and 5
abbrev Few : Id → Type 0
Few x = (x.0 ≡ 1) ⊎ (x.0 ≡ 5)

pub number_is : (k : ℕ) (x : Id) → Some (id_of k) ≡ Some x → x.0 ≡ k
number_is k x e = ap (λ (y : Id). y.0) (sym (same_Some (id_of k) x e))

few_named : (x : Id) → None ≡ Some x → Few x
few_named x e = absurd (none-some x e)

few_used : (x : Id) → IsUsed busy x → Few x
few_used x (in_register c d e) =
    cell_cases (λ o. o ≡ Some x → Few x) (start_of few).registers 0 0 c d (Some (id_of 1)) None
    (λ _ _ f. inl (number_is 1 x f))
    (replicate_cases (λ row. get_or row d None ≡ Some x → Few x) 1 c (replicate REGISTERS None) []
    (replicate_cases (λ o. o ≡ Some x → Few x) REGISTERS d None None (few_named x) (few_named x))
    (few_named x))
    e
few_used x (in_static k e) =
    replicate_cases (λ o. o ≡ Some x → Few x) REGISTERS k None None (few_named x) (few_named x) e
few_used x (in_queue h) = absurd (not_in_none x h)
few_used x (by_handle slot h e holding target) =
    absurd (all_handles (λ k g. role g ≡ holds → ⊥) (λ r. false≢true (ap is_holding r))
    (λ r. false≢true (ap is_holding r)) (λ r. false≢true (ap is_holding r))
    (λ r. false≢true (ap is_holding r))
    (λ r. false≢true (ap is_holding r)) (λ r. false≢true (ap is_holding r)) slot h (row_is slot h e) holding)

few_older : (x : Id) → IsOlder 0 busy x → Few x
few_older x old =
    all_objects (λ k o. 0 < o.generation → (k ≡ 1) ⊎ (k ≡ 5)) (λ l. inl refl) (λ l. absurd (omega arith))
    (λ l. absurd (omega arith)) (λ l. absurd (omega arith)) (λ l. absurd (omega arith)) x.0 old.object
    old.is_stored old.above

few_fields : (x y : Id) (object : Object Id) (i : ℕ) → Few x → get busy.objects x.0 ≡ Some object
    → field_of object i ≡ Some y → Few y
few_fields x y object i used is_stored e =
    absurd (all_objects (λ k o. (k ≡ 1) ⊎ (k ≡ 5) → field_of o i ≡ Some y → ⊥) (λ _ f. none-some y f)
    (λ _ f. none-some y f) (λ _ f. none-some y f)
    (λ k _. ⊎_elim (λ e. omega arith) (λ e. omega arith) k) (λ _ f. none-some y f) x.0 object is_stored
    used e)

few_seconds : (x y : Id) (slot : ℕ) (h : Handle Id) → Few x → row_of busy slot ≡ Some h
    → h.kind ≡ kind.Dependent → h.target ≡ Some x → secondary_of h.extra ≡ Some y → Few y
few_seconds x y slot h used e is target second =
    all_handles (λ k g. secondary_of g.extra ≡ Some y → Few y) (few_named y) (few_named y) (few_named y)
    (few_named y) (few_named y) (λ f. inr (number_is 5 y f)) slot h (row_is slot h e) second

in_use_few : {x : Id} → IsInUse 0 busy x → Few x
in_use_few used = led_within busy (λ x. IsUsed busy x ⊎ IsOlder 0 busy x) Few
    (λ x. ⊎_elim (few_used x) (few_older x)) few_fields few_seconds used

out : (k : ℕ) → k ≢ 1 → k ≢ 5 → IsInUse 0 busy (id_of k) → ⊥
out k a b used = ⊎_elim a b (in_use_few used)

-- what is resurrected in it, and what that leads to: 3 and 4
abbrev pub Led : Id → Type 0
Led x = (x.0 ≡ 3) ⊎ (x.0 ≡ 4)

led_start : (x : Id) → IsResurrected 0 busy x → Led x
led_start x v =
    all_objects (λ k o. o.registered ≡ true → (k ≡ 3) ⊎ (k ≡ 4)) (λ r. absurd (false≢true r))
    (λ r. absurd (false≢true r)) (λ r. absurd (false≢true r)) (λ r. inl refl) (λ r. absurd (false≢true r)) x.0
    v.object v.is_stored v.registered

led_from_leading : (i : ℕ) (y : Id) → field_of leading i ≡ Some y → Led y
led_from_leading zero y e = inr (number_is 4 y e)
led_from_leading (suc i) y e = absurd (none-some y e)

pub led_fields : (x y : Id) (object : Object Id) (i : ℕ) → Led x → get busy.objects x.0 ≡ Some object
    → field_of object i ≡ Some y → Led y
led_fields x y object i led is_stored e =
    all_objects (λ k o. field_of o i ≡ Some y → Led y) (λ f. absurd (none-some y f))
    (λ f. absurd (none-some y f)) (λ f. absurd (none-some y f)) (led_from_leading i y)
    (λ f. absurd (none-some y f)) x.0 object is_stored e

led_seconds : (x y : Id) (slot : ℕ) (h : Handle Id) → Led x → row_of busy slot ≡ Some h
    → h.kind ≡ kind.Dependent → h.target ≡ Some x → secondary_of h.extra ≡ Some y → Led y
led_seconds x y slot h led e is target second =
    let one : x.0 ≡ 1 =
    all_handles (λ k g. g.kind ≡ kind.Dependent → g.target ≡ Some x → x.0 ≡ 1)
    (λ q _. absurd (false≢true (ap is_paired q))) (λ q _. absurd (false≢true (ap is_paired q)))
    (λ q _. absurd (false≢true (ap is_paired q))) (λ q _. absurd (false≢true (ap is_paired q)))
    (λ q _. absurd (false≢true (ap is_paired q)))
    (λ _ t. number_is 1 x t) slot h (row_is slot h e) is target in
    absurd (⊎_elim (λ three. omega arith) (λ four. omega arith) led)

rescued_led : {x : Id} → IsLedTo busy (IsResurrected 0 busy) x → Led x
rescued_led chain = led_within busy (IsResurrected 0 busy) Led led_start led_fields led_seconds chain

three_resurrected : IsResurrected 0 busy (id_of 3)
three_resurrected = record {
  object = leading;
  is_stored = at_three;
  registered = refl;
  young = omega arith;
  out_of_use = out 3 (λ e. omega arith) (λ e. omega arith);
}

-- its ages
low : (a g : ℕ) → a ≡ 0 → a ≤ g
low a g e = omega arith

one_old : (x : Id) → Some (id_of 1) ≡ Some x → 1 ≤ generation_at (scene_of busy).object x
one_old x e =
    subst (λ (y : Id). 1 ≤ generation_at (scene_of busy).object y) (same_Some (id_of 1) x e)
    (subst (λ g. 1 ≤ g) (sym (ap generation_in at_one)) (omega arith))

busy_ages : HasSoundAges (scene_of busy).object (scene_of busy).handle ages_of_busy
busy_ages = record {
  targets = λ slot h x e target.
      all_handles (λ k g. g.target ≡ Some x → age_of ages_of_busy k ≤ generation_at (scene_of busy).object x)
      (λ _. low _ _ refl) (λ _. low _ _ refl) (λ _. low _ _ refl) (λ _. low _ _ refl) (one_old x)
      (λ _. low _ _ refl) slot h (row_is slot h e) target;
  secondaries = λ slot h x e second. all_handles
      (λ k g. secondary_of g.extra ≡ Some x → age_of ages_of_busy k ≤ generation_at (scene_of busy).object x)
      (λ f. absurd (none-some x f)) (λ f. absurd (none-some x f)) (λ f. absurd (none-some x f))
      (λ f. absurd (none-some x f)) (λ f. absurd (none-some x f))
      (λ _. low _ _ refl) slot h (row_is slot h e) second;
}

-- in the calm state nothing is registered
calm_resurrects_none : (t : State) (r : Report) → CollectsState 1 calm t r → r.revived ≡ 0
calm_resurrects_none t r c =
    counts_zero (λ x. c.scene.resurrected x ≡ true) r.revived
    (λ x h. let v = (c.scene.resurrected_is x).0 h in
    insert_all counted.objects 1 (λ k o. o.registered ≡ true → ⊥) (object_with [] 1 false)
    (λ q. false≢true q) (none_there (λ k o. o.registered ≡ true → ⊥)) x.0 v.object v.is_stored v.registered)
    c.scene.report_is.resurrected

pub premises_are_met : PremisesAreMet
premises_are_met = record {
  calm_is = calm_is;
  busy_is = busy_is;
  after_calm = collections_exist few 1 calm calm_is;
  after_busy = collections_exist few 0 busy busy_is;
  in_use = by_dependent (from_start (inl (in_register 0 0 refl))) 192 attaching
      (handle_row busy 192 attaching at_192) refl refl refl;
  garbage = record {
    object = ap is_some at_two;
    out_of_use = out 2 (λ e. omega arith) (λ e. omega arith);
    not_rescued = λ chain. ⊎_elim (λ e. omega arith) (λ e. omega arith) (rescued_led chain);
  };
  resurrected = three_resurrected;
  rescued = record {
    led_to = by_field (from_start three_resurrected) leading 0 at_three refl;
    out_of_use = out 4 (λ e. omega arith) (λ e. omega arith);
  };
  older = record { object = object_with [] 1 false; is_stored = at_one; above = omega arith };
  apart = record {
    weak_short = weak_to kind.Short 4;
    weak_long = weak_to kind.Long 4;
    short_is_stored = at_64;
    long_is_stored = at_128;
    short_role = refl;
    long_role = refl;
    short_target = refl;
    long_target = refl;
  };
  alike = record {
    weak_short = weak_to kind.Short 1;
    weak_long = weak_to kind.Long 1;
    short_is_stored =
        get_beside with_short.handles 129 (weak_to kind.Long 1) 65 (λ e. omega arith)
        ∙ get_inserted with_blocks.handles 65 (weak_to kind.Short 1);
    long_is_stored = get_inserted with_short.handles 129 (weak_to kind.Long 1);
    short_role = refl;
    long_role = refl;
    short_target = refl;
    long_target = refl;
  };
  none_resurrected = calm_resurrects_none;
  dependent = record { handle = attaching; is_stored = at_192; kind_is = refl; target = refl };
  without =
      collections_exist few 0 (without_handle busy (slot_of 192))
      (removal_keeps few busy busy_is (slot_of 192));
  entered_is = entered_is;
  entry = held_193;
  after_entered = collections_exist few 0 entered entered_is;
  taken_out = collections_exist few 0 (with_weak entered (slot_of 193) None)
      (taken_out few entered entered_is (slot_of 193) (ap is_some held_193));
  ages = busy_ages;
  not_due = refl;
  due = refl;
}
