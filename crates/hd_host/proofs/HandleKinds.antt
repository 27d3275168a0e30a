-- Live handles of some kinds, by the masks of their blocks.
use Rattle.std.proofs.Common.{Bool, None, Option, Some, ap, arith, bit_and, cond, false, is_some, refl, subst, sym, true, ℕ, ⊎_elim, ◌*◌, ◌+◌, ◌-◌, ◌/◌, ◌<◌, ◌^◌, ◌∙◌, ◌≡◌, ◌≤◌}
use Rattle.std.proofs.lemmas.Bool.{cases_eq, cases_lt, true≢false}
use Rattle.std.proofs.lemmas.Nat.{and_le_r}
use Rattle.std.proofs.lemmas.Nat.Bits.{bit_at-lt, bit_at-pow_other, bit_at-zero, bit_at_above}
use Rattle.std.proofs.lemmas.Option.{none-some, same_Some}
use Rattle.std.specs.FinMap.{contains_key, get}
use Rattle.std.specs.Int.{bit_at}
use Rattle.std.specs.Option.{option_or}
use Rattle.std.specs.Prelude.{IsSome, MatchOption, option_and_then, option_map, unwrap_or}
use Rattle.hd_mask.proofs.Bits.{bit_at-shr, lowest_parts}
use Rattle.hd_model.specs.Heap.{id_at}
use Rattle.hd_model.specs.{declared.data.Id.Id, declared.data.Kind.Kind, declared.data.Slot.Slot, declared.limits.TheConstants.HOST_BLOCKS, declared.limits.TheConstants.ROWS, Kinds.kind_number}
use Rattle.hd_model.specs.State.{BlockUse, Handle, extra_data, handle_at, handles_of, nothing, rename_handle, use_of, weak_handle}
use Rattle.hd_model.specs.Table.{Table, live_at}
use Rattle.hd_seg.specs.Row.{block_kind_of}
use Rattle.hd_seg.specs.declared.row.BlockKind.{BlockKind}
use Rattle.hd_seg.specs.declared.row.BlockKind.TheVariants as block_kind
use Rattle.hd_model.specs.declared.data.Kind.TheVariants.{Short}
use Rattle.hd_store.specs.{Calls.IsSound, Growth.kind_in_use, Store.IsOverHeap, Store.Machine}
use Rattle.hd_seg.specs.Given.{HasNoneGiven, IsNextGiven}
use Rattle.hd_host.specs.Kinds.{HasAt, HasHandle, HasNoneBefore, HasNoneOf, IsFirstIn, IsHandleOf, IsNextOf}

some_back : {A B : Type 0} (f : A → B) (o : Option A) (y : B) → option_map f o ≡ Some y → is_some o ≡ true
some_back f None y is = absurd (none-some y is)
some_back f (Some x) y is = refl

none_back : {A B : Type 0} (f : A → B) (o : Option A) → option_map f o ≡ None → is_some o ≡ true → ⊥
none_back f None is some = true≢false (sym some)
none_back f (Some x) is some = none-some (f x) (sym is)

or_none : {A : Type 0} (o : Option A) → option_or o None ≡ o
or_none None = refl
or_none (Some x) = refl

some_value : {A : Type 0} (o : Option A) (d : A) → is_some o ≡ true → o ≡ Some (unwrap_or o d)
some_value None d some = absurd (true≢false (sym some))
some_value (Some x) d some = refl

-- ---- one slot

module _ {m : Machine} (over : IsOverHeap m) (sound : IsSound m) (slot : Slot) where
  row-seen : (h : Handle Id) → handle_at m.state slot ≡ Some h
      → option_map (rename_handle (id_at m.heap)) (get m.table.rows slot.0) ≡ Some h
  row-seen h live =
      over.table.rows slot.0
      ∙ ap (λ o. option_or o (option_map weak_handle (get m.state.weak slot.0))) live

  pub live-row : (cleared : Bool) → HasHandle m.state cleared slot → IsSome (get m.table.rows slot.0)
  live-row cleared has =
      some_back (rename_handle (id_at m.heap)) (get m.table.rows slot.0) has.handle (row-seen has.handle has.live)

  row-there : IsSome (get m.table.rows slot.0) → get m.table.rows slot.0 ≡ Some (live_at m.table slot.0)
  row-there = some_value (get m.table.rows slot.0) (record { kind = Short; target = None; extra = nothing })

  pub is-wanted : (cleared : Bool) → IsSome (get m.table.rows slot.0) → get m.state.weak slot.0 ≡ None
      → (cleared ≡ true → (live_at m.table slot.0).target ≡ None) → HasHandle m.state cleared slot
  is-wanted cleared live none null = record {
    handle = rename_handle (id_at m.heap) (live_at m.table slot.0);
    live = sym (or_none (get m.state.handles slot.0))
        ∙ ap (λ w. option_or (get m.state.handles slot.0) (option_map weak_handle w)) (sym none)
        ∙ sym (over.table.rows slot.0) ∙ ap (option_map (rename_handle (id_at m.heap))) (row-there live);
    is_cleared = λ only. ap (option_map (id_at m.heap)) (null only);
  }

  pub not-null : (cleared : Bool) → HasHandle m.state cleared slot → cleared ≡ true
      → IsSome (live_at m.table slot.0).target → ⊥
  not-null cleared has only some =
      none_back (id_at m.heap) (live_at m.table slot.0).target
      (ap (option_and_then (λ (h : Handle Id). h.target))
      (sym (ap (option_map (rename_handle (id_at m.heap))) (row-there (live-row cleared has)))
      ∙ row-seen has.handle has.live) ∙ has.is_cleared only) some

  pub not-weak : (cleared : Bool) → HasHandle m.state cleared slot → IsSome (get m.state.weak slot.0) → ⊥
  not-weak cleared has held =
      none-some has.handle (sym (sound.well_formed.weak.apart slot.0 held) ∙ has.live)

-- ---- the rows of one block

one_of : (b : Bool) → ◌≡◌ {A = ℕ} (cond b 1 0) 1 → b ≡ true
one_of true is = refl
one_of false is = absurd (omega (arith, is))

-- the rows from one on that are left, as a mask from there: each that has a handle is, and each is live
pub record AreLeft (m : Machine) (cleared : Bool) (block first rows : ℕ) : Type 0 where
  pub all :
      (k : ℕ) → first ≤ k → k < ROWS → HasAt m.state cleared block k → bit_at rows (k - first) ≡ 1
  pub only :
      (i : ℕ) → bit_at rows i ≡ 1 → (first + i < ROWS) × IsSome (get m.table.rows (ROWS * block + (first + i)))

module _ {m : Machine} (over : IsOverHeap m) (sound : IsSound m) (cleared : Bool) (block first mask : ℕ)
    (fits : mask < 2 ^ 64)
    (bits : (i : ℕ) → i < ROWS → bit_at mask i ≡ cond (contains_key m.table.rows (ROWS * block + i)) 1 0) where
  has-bit : (k : ℕ) → k < ROWS → HasAt m.state cleared block k → bit_at mask k ≡ 1
  has-bit k low has = bits k low
      ∙ ap (λ b. cond b 1 0) (live-row over sound (record { 0 = ROWS * block + k }) cleared has)

  within : (k : ℕ) → bit_at mask k ≡ 1 → k < ROWS
  within k set =
      ⊎_elim (λ low. low)
      (λ high. let none = bit_at_above mask 64 k fits high in absurd (omega (arith, none, set))) (cases_lt k ROWS)

  -- at first all
  pub left-first : AreLeft m cleared block first (mask / 2 ^ first)
  left-first = record {
    all = λ k low high has.
        bit_at-shr mask first (k - first) ∙ ap (bit_at mask) (omega (arith, low)) ∙ has-bit k high has;
    only = λ i set.
        let one = sym (bit_at-shr mask first i) ∙ set in let low = within (first + i) one in (
          low,
          one_of (contains_key m.table.rows (ROWS * block + (first + i))) (sym (bits (first + i) low) ∙ one),
        );
  }

module _ {m : Machine} {cleared : Bool} {block first rows : ℕ} (left : AreLeft m cleared block first rows) where
  pub none-left : rows ≡ 0 → (k : ℕ) → first ≤ k → k < ROWS → HasAt m.state cleared block k → ⊥
  none-left none k low high has =
      let is = left.all k low high has in let gone = ap (λ n. bit_at n (k - first)) none ∙ bit_at-zero (k - first) in
      absurd (omega (arith, is, gone))

  -- the lowest of them
  module _ (step : ℕ) (set : bit_at rows step ≡ 1) (least : (k : ℕ) → k < step → bit_at rows k ≡ 0) where
    pub first-row : HasAt m.state cleared block (first + step)
        → IsFirstIn m.state cleared block first (first + step)
    first-row has =
        let low = (left.only step set).0 in
        record {
          from_on = omega arith;
          within = low;
          has = has;
          least = λ k from high has_one.
              let is = left.all k from (omega (arith, low, high)) has_one in
              let gone = least (k - first) (omega (arith, from, high)) in absurd (omega (arith, is, gone));
        }

    pub some-left : 1 ≤ rows
    some-left =
        ⊎_elim (λ none. absurd (let zero : rows ≡ 0 = omega (arith, none) in
        let gone = ap (λ n. bit_at n step) zero ∙ bit_at-zero step in omega (arith, set, gone)))
        (λ some. some) (cases_lt rows 1)

    pub fewer-left : bit_and rows (rows - 1) < rows
    fewer-left = omega (arith, and_le_r rows (rows - 1), some-left)

    -- the others, where it has none
    pub left-next : (HasAt m.state cleared block (first + step) → ⊥)
        → AreLeft m cleared block first (bit_and rows (rows - 1))
    left-next not = record {
      all = λ k low high has.
          ⊎_elim (λ same. let there : k ≡ first + step = omega (arith, low, same) in
          absurd (not (subst (HasAt m.state cleared block) there has)))
          (λ apart. let is = left.all k low high has in let parts = lowest_parts rows step set least (k - first) in
          let other = bit_at-pow_other step (k - first) apart in omega (arith, is, parts, other))
          (cases_eq (k - first) step);
      only = λ i one.
          let parts = lowest_parts rows step set least i in
          left.only i (omega (arith, parts, one, bit_at-lt rows i));
    }

-- ---- slots of one block

pub kind-use : {m : Machine} (sound : IsSound m) (slot : Slot) (h : Handle Id) → handle_at m.state slot ≡ Some h
    → use_of m.state (slot.0 / ROWS) ≡ Some (handles_of h.kind)
kind-use sound slot h live = sound.well_formed.handles.kinds slot.0 h live

module _ {m : Machine} (sound : IsSound m) (kinds : ℕ) (cleared : Bool) (block row : ℕ) (inside : row < ROWS) where
  abbrev start : ℕ
  start = ROWS * block + row

  -- a slot from the row on in the block
  in-block : (slot : Slot) → start ≤ slot.0 → slot.0 < ROWS * (block + 1) → slot.0 / ROWS ≡ block
  in-block slot low high = omega (arith, low, high, inside)

  kind-of : (slot : Slot) → start ≤ slot.0 → slot.0 < ROWS * (block + 1) → (h : Handle Id)
      → handle_at m.state slot ≡ Some h → kind_in_use (use_of m.state block) ≡ Some h.kind
  kind-of slot low high h live =
      ap (λ b. kind_in_use (use_of m.state b)) (sym (in-block slot low high))
      ∙ ap kind_in_use (kind-use sound slot h live)

  pub none-outside : ((1 ≤ block) × (block ≤ m.numbers.blocks) → ⊥)
      → HasNoneBefore m.state kinds cleared start (ROWS * (block + 1))
  none-outside outside slot low high is =
      outside (sound.well_formed.handles.blocks block
      (ap is_some (ap (use_of m.state) (sym (in-block slot low high))
      ∙ kind-use sound slot is.has.handle is.has.live)))

  pub none-unused : None ≡ kind_in_use (use_of m.state block)
      → HasNoneBefore m.state kinds cleared start (ROWS * (block + 1))
  none-unused none slot low high is =
      none-some is.has.handle.kind (none ∙ kind-of slot low high is.has.handle is.has.live)

  module _ (kind : Kind) (kind-is : Some kind ≡ kind_in_use (use_of m.state block)) where
    same-kind : (slot : Slot) → start ≤ slot.0 → slot.0 < ROWS * (block + 1) → (h : Handle Id)
        → handle_at m.state slot ≡ Some h → kind ≡ h.kind
    same-kind slot low high h live = same_Some kind h.kind (kind-is ∙ kind-of slot low high h live)

    pub none-of-kind : (bit_at kinds (kind_number kind) ≡ 1 → ⊥)
        → HasNoneBefore m.state kinds cleared start (ROWS * (block + 1))
    none-of-kind not slot low high is =
        not (subst (λ k. bit_at kinds (kind_number k) ≡ 1)
        (sym (same-kind slot low high is.has.handle is.has.live)) is.of_kinds)

    -- a slot by its row
    by-row : (slot : Slot) → start ≤ slot.0 → HasHandle m.state cleared slot
        → HasAt m.state cleared block (slot.0 - ROWS * block)
    by-row slot low has = subst (λ (x : Slot). HasHandle m.state cleared x)
        (λ i. record { 0 = at i }) has
      where
        at : slot.0 ≡ ROWS * block + (slot.0 - ROWS * block)
        at = omega (arith, low)

    pub none-in-rows : ((k : ℕ) → row ≤ k → k < ROWS → HasAt m.state cleared block k → ⊥)
        → HasNoneBefore m.state kinds cleared start (ROWS * (block + 1))
    none-in-rows none slot low high is =
        none (slot.0 - ROWS * block) (omega (arith, low)) (omega (arith, low, high)) (by-row slot low is.has)

    pub next-in-rows : (at : ℕ) → IsFirstIn m.state cleared block row at → bit_at kinds (kind_number kind) ≡ 1
        → IsNextOf m.state kinds cleared start (record { 0 = ROWS * block + at })
    next-in-rows at found one = record {
      is = record {
        has = found.has;
        of_kinds = subst (λ k. bit_at kinds (kind_number k) ≡ 1)
            (same-kind (record { 0 = ROWS * block + at }) (omega (arith, found.from_on))
            (omega (arith, found.within)) found.has.handle found.has.live) one;
      };
      from_on = omega (arith, found.from_on);
      least = λ other low is.
          ⊎_elim (λ before. absurd (found.least (other.0 - ROWS * block) (omega (arith, low))
          (omega (arith, low, before)) (by-row other low is.has))) (λ high. high)
          (cases_lt other.0 (ROWS * block + at));
    }

-- ---- all slots

module _ {m : Machine} (sound : IsSound m) (kinds : ℕ) (cleared : Bool) (from : ℕ) where
  -- what is from a number on, where none is before it
  module _ (to start : ℕ) (same : start ≡ to) (before : HasNoneBefore m.state kinds cleared from to) where
    pub none-joined : (end : ℕ) → HasNoneBefore m.state kinds cleared start end
        → HasNoneBefore m.state kinds cleared from end
    none-joined end here slot on high is =
        ⊎_elim (λ first. before slot on first is) (λ later. here slot (omega (arith, same, later)) high is)
        (cases_lt slot.0 to)

    none-after : HasNoneOf m.state kinds cleared start → HasNoneOf m.state kinds cleared from
    none-after here slot on is =
        ⊎_elim (λ first. before slot on first is) (λ later. here slot (omega (arith, same, later)) is)
        (cases_lt slot.0 to)

    pub next-after : from ≤ to → (slot : Slot) → IsNextOf m.state kinds cleared start slot
        → IsNextOf m.state kinds cleared from slot
    next-after low slot next = record {
      is = next.is;
      from_on = omega (arith, low, same, next.from_on);
      least = λ other on is.
          ⊎_elim (λ first. absurd (before other on first is))
          (λ later. next.least other (omega (arith, same, later)) is) (cases_lt other.0 to);
    }

    pub after : from ≤ to → (o : Option Slot)
        → MatchOption o (HasNoneOf m.state kinds cleared start) (IsNextOf m.state kinds cleared start)
        → MatchOption o (HasNoneOf m.state kinds cleared from) (IsNextOf m.state kinds cleared from)
    after low None none = none-after none
    after low (Some slot) next = next-after low slot next

  -- no slot of a block without a use has a handle
  without-use : (slot : Slot) → use_of m.state (slot.0 / ROWS) ≡ None → IsHandleOf m.state kinds cleared slot → ⊥
  without-use slot none is =
      none-some (handles_of is.has.handle.kind) (sym none ∙ kind-use sound slot is.has.handle is.has.live)

  pub none-between : (block next : ℕ) → IsNextGiven m.state.blocks block next
      → HasNoneBefore m.state kinds cleared from (ROWS * block) → HasNoneBefore m.state kinds cleared from (ROWS * next)
  none-between block next given before slot on high is =
      ⊎_elim (λ first. before slot on first is)
      (λ later. without-use slot (given.least (slot.0 / ROWS) (omega (arith, later)) (omega (arith, high))) is)
      (cases_lt slot.0 (ROWS * block))

  pub none-beyond : (block : ℕ) → HasNoneGiven m.state.blocks block
      → HasNoneBefore m.state kinds cleared from (ROWS * block) → HasNoneOf m.state kinds cleared from
  none-beyond block none before slot on is =
      ⊎_elim (λ first. before slot on first is)
      (λ later. without-use slot (none (slot.0 / ROWS) (omega (arith, later))) is) (cases_lt slot.0 (ROWS * block))

-- ---- what a store says of a slot and of a block

-- the kind of a block, as the table says it
abbrev pub kind_in_block : BlockKind → Option Kind
kind_in_block block_kind.Unused = None
kind_in_block (block_kind.Rows kind) = Some kind
kind_in_block block_kind.Extras = None

kind-read : (o : Option BlockUse) → kind_in_block (block_kind_of o) ≡ kind_in_use o
kind-read None = refl
kind-read (Some (handles_of kind)) = refl
kind-read (Some extra_data) = refl

pub kind-is : {m : Machine} → IsOverHeap m → (t : Table) → t ≡ m.table → (at : ℕ) (found : BlockKind)
    → found ≡ block_kind_of (get t.uses at) → kind_in_block found ≡ kind_in_use (use_of m.state at)
kind-is over t same at found is =
    ap kind_in_block is ∙ kind-read (get t.uses at) ∙ ap (λ (x : Table). kind_in_use (get x.uses at)) same
    ∙ ap (λ uses. kind_in_use (get uses at)) over.table.uses

-- a block of handles is one of the table's
used-of : (o : Option BlockUse) (kind : Kind) → Some kind ≡ kind_in_use o → IsSome o
used-of None kind is = absurd (none-some kind (sym is))
used-of (Some given) kind is = refl

pub few-block : {m : Machine} → (sound : IsSound m) → (block : ℕ) (kind : Kind)
    → Some kind ≡ kind_in_use (use_of m.state block) → block ≤ HOST_BLOCKS
few-block {m = m} sound block kind is =
    let within = sound.well_formed.handles.blocks block (used-of (use_of m.state block) kind is) in
    let high = within.1 in omega (arith, high, sound.limits.blocks.1)
