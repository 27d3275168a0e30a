-- A new handle's slot in a block that has just come into use.
use Rattle.hd_store.proofs.StoreWords.{Back, Dependent, Grown, Handle, HasHandles, HasWeakTable, Id, IsFree, IsLeastUnused, IsSlotGiven, Kind, Machine, None, One, Option, Slot, Some, Two, WeakEntry, Zero, ap, arith, block_of, blocks_needed, extra_data, false, first_slot, get, get_beside, get_inserted, given_of, handle_at, handles_of, insert, is_paired, is_some, refl, subst, sym, true, use_of, with_growth, ℕ, ◌*◌, ◌+◌, ◌/◌, ◌∙◌, ◌≡◌, ◌≤◌}
use Rattle.hd_store.proofs.IdentityReadings.{no_some}
use Rattle.hd_model.specs.declared.limits.TheConstants.{ROWS}

abbrev is_growth : Grown → Type 0
is_growth Zero = ⊥
is_growth (One b) = Unit {0}
is_growth (Two b d) = Unit {0}
is_growth (Back b) = Unit {0}

first_block : (block : ℕ) → block * ROWS / ROWS ≡ block
first_block block = omega arith

-- no handle is in a block without a use
pub vacant_first : (m : Machine) (block : ℕ) → HasHandles m.numbers m.state → use_of m.state block ≡ None
    → handle_at m.state (first_slot block) ≡ None
vacant_first m block handles unused = by (handle_at m.state (first_slot block)) refl
  where
    by : (o : Option (Handle Id)) → handle_at m.state (first_slot block) ≡ o
        → handle_at m.state (first_slot block) ≡ None
    by None is = is
    by (Some h) is =
        absurd (no_some (handles_of h.kind)
        (sym (handles.kinds (block * ROWS) h is) ∙ ap (use_of m.state) (first_block block) ∙ unused))

-- nor does the weak table hold a slot there
not_weak_first : (m : Machine) (block : ℕ) → HasWeakTable m.state → use_of m.state block ≡ None
    → get m.state.weak (block * ROWS) ≡ None
not_weak_first m block weak unused = by (get m.state.weak (block * ROWS)) refl
  where
    by : (o : Option (Option (WeakEntry Id))) → get m.state.weak (block * ROWS) ≡ o
        → get m.state.weak (block * ROWS) ≡ None
    by None is = is
    by (Some e) is =
        absurd (no_some (handles_of Dependent)
        (sym (weak.kinds (block * ROWS) (ap is_some is)) ∙ ap (use_of m.state) (first_block block) ∙ unused))

module _ (old new : Machine) (kind : Kind) (slot : Slot) (handles : HasHandles old.numbers old.state)
    (weak : HasWeakTable old.state) (block : ℕ) (at : slot ≡ first_slot block)
    (least : IsLeastUnused old.numbers old.state 1 block) where
  block_is : block_of slot ≡ block
  block_is = ap block_of at ∙ first_block block

  vacant : handle_at old.state slot ≡ None
  vacant = ap (handle_at old.state) at ∙ vacant_first old block handles least.unused

  not_weak : get old.state.weak slot.0 ≡ None
  not_weak = ap (λ (s : Slot). get old.state.weak s.0) at ∙ not_weak_first old block weak least.unused

  use_is : get (insert old.state.blocks block (handles_of kind)) (block_of slot) ≡ Some (handles_of kind)
  use_is = ap (get (insert old.state.blocks block (handles_of kind))) block_is
      ∙ get_inserted old.state.blocks block (handles_of kind)

  pub placed_one : is_paired kind ≡ false
      → new ≡ record old { state = with_growth old.state kind (One block); table = new.table }
      → given_of old.state + blocks_needed kind ≤ old.numbers.blocks
      → IsSlotGiven old new kind None slot (One block)
  placed_one single store room = record {
    may = (single, least, at);
    store = store;
    free = subst (λ (m : Machine). IsFree m.state kind slot) (sym store)
        (record { no_handle = vacant; not_weak = not_weak; of_kind = use_is });
    low = subst (λ b. 1 ≤ b) (sym block_is) least.low;
    high = subst (λ b. b ≤ old.numbers.blocks) (sym block_is) least.high;
    offered = tt;
    grows = λ _. (λ same. subst is_growth same tt, room);
  }

  pub placed_two : (other : ℕ) → is_paired kind ≡ true → IsLeastUnused old.numbers old.state (block + 1) other
      → new ≡ record old { state = with_growth old.state kind (Two block other); table = new.table }
      → given_of old.state + blocks_needed kind ≤ old.numbers.blocks
      → IsSlotGiven old new kind None slot (Two block other)
  placed_two other double next store room = record {
    may = (double, least, next, at);
    store = store;
    free = subst (λ (m : Machine). IsFree m.state kind slot) (sym store) (record {
      no_handle = vacant;
      not_weak = not_weak;
      of_kind = get_beside (insert old.state.blocks block (handles_of kind)) other extra_data
          (block_of slot) (λ same. let low = next.low in let is = block_is in absurd (omega arith)) ∙ use_is;
    });
    low = subst (λ b. 1 ≤ b) (sym block_is) least.low;
    high = subst (λ b. b ≤ old.numbers.blocks) (sym block_is) least.high;
    offered = tt;
    grows = λ _. (λ same. subst is_growth same tt, room);
  }
