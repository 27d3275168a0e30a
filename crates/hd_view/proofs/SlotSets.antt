-- The free slots of a kind, block by block.
use Rattle.std.proofs.Common.{List, None, Option, Some, [], ap, arith, false, is_some, refl, subst, sym, true, ℕ, ⊎_elim, ◌*◌, ◌+◌, ◌-◌, ◌<◌, ◌∙◌, ◌≡◌, ◌≤◌, ◌⊎◌}
use Rattle.std.specs.Prelude.{Bool, IsSome, IsTrue, ◌↔◌}
use Rattle.std.proofs.lemmas.Bool.{cases_lt, eq-eqb, true≢false}
use Rattle.std.proofs.lemmas.Option.{none-some, same_Some}
use Rattle.std.specs.FinMap.{get}
use mathlib.Core.Bool.{beq}
use mathlib.Core.Logic.{inl, inr}
use Rattle.hd_model.specs.declared.data.Id.{Id}
use Rattle.hd_model.specs.declared.data.Kind.{Kind}
use Rattle.hd_model.specs.declared.data.Slot.{Slot}
use Rattle.hd_model.specs.declared.limits.TheConstants.{ROWS}
use Rattle.hd_model.specs.Kinds.{is_kind, kind_number}
use Rattle.hd_model.specs.State.{BlockUse, Handle, IsFree, State, WeakEntry, block_of, extra_data, handle_at, handles_of, use_of}
use Rattle.hd_model.proofs.KindTests.{same_kind}
use Rattle.hd_view.specs.Inside.{Adds, Between, CoversTo, IsFreeAs}
use Rattle.hd_view.specs.{Inside.Has, Sets.IsIn, Sets.IsMember}
use Rattle.hd_view.specs.declared.sets.NumberSet.{NumberSet}
use Rattle.hd_view.specs.declared.sets.Range.{Range}

-- ---- a slot is free or not

abbrev is_use : Kind → BlockUse → Bool
is_use kind (handles_of j) = is_kind j kind
is_use kind extra_data = false

use_cases : (o : Option BlockUse) (kind : Kind)
    → (o ≡ Some (handles_of kind)) ⊎ (o ≡ Some (handles_of kind) → ⊥)
use_cases None kind = inr (λ e. none-some (handles_of kind) e)
use_cases (Some u) kind = by u (is_use kind u) refl
  where
    own : is_kind kind kind ≡ true
    own = eq-eqb (kind_number kind) (kind_number kind) refl

    other : (u : BlockUse) → is_use kind u ≡ false → Some u ≡ Some (handles_of kind) → ⊥
    other u differs e =
        true≢false (sym own ∙ sym (ap (is_use kind) (same_Some u (handles_of kind) e)) ∙ differs)

    by : (u : BlockUse) (b : Bool) → is_use kind u ≡ b
        → (Some u ≡ Some (handles_of kind)) ⊎ (Some u ≡ Some (handles_of kind) → ⊥)
    by (handles_of j) true e = inl (ap (λ k. Some (handles_of k)) (same_kind j kind e))
    by (handles_of j) false e = inr (other (handles_of j) e)
    by extra_data true e = absurd (true≢false (sym e))
    by extra_data false e = inr (other extra_data e)

free_or_not : (s : State) (kind : Kind) (slot : Slot) → IsFree s kind slot ⊎ (IsFree s kind slot → ⊥)
free_or_not s kind slot = by (handle_at s slot) refl (get s.weak slot.0) refl
  where
    by : (h : Option (Handle Id)) → handle_at s slot ≡ h → (w : Option (Option (WeakEntry Id)))
        → get s.weak slot.0 ≡ w → IsFree s kind slot ⊎ (IsFree s kind slot → ⊥)
    by (Some h) e w g = inr (λ f. none-some h (sym f.no_handle ∙ e))
    by None e (Some w) g = inr (λ f. none-some w (sym f.not_weak ∙ g))
    by None e None g =
        ⊎_elim (λ u. inl (record { no_handle = e; not_weak = g; of_kind = u }))
        (λ none. inr (λ f. none f.of_kind)) (use_cases (use_of s (block_of slot)) kind)

-- a test of whether another has a value
pub as_wanted : (test wanted : Bool) (P : Type 0) → IsTrue test ↔ P
    → IsTrue (beq test wanted) ↔ (P ↔ (wanted ≡ true))
as_wanted true true P t = (λ _. (λ _. refl, λ _. t.0 refl), λ _. refl)
as_wanted true false P t = (λ e. absurd (true≢false (sym e)), λ h. h.0 (t.0 refl))
as_wanted false true P t = (λ e. absurd (true≢false (sym e)), λ h. t.1 (h.1 refl))
as_wanted false false P t = (λ _. (λ p. t.1 p, λ e. absurd (true≢false (sym e))), λ _. refl)

-- ---- block by block

pub none_in : (ranges : List Range) (x : ℕ) → ranges ≡ [] → IsIn ranges x → ⊥
none_in ranges x none i = subst (λ rs. IsIn rs x) none i

-- a slot of a block
abbrev InBlock : ℕ → ℕ → Type 0
InBlock block x = (block * ROWS ≤ x) × (x < block * ROWS + ROWS)

module _ (s : State) (kind : Kind) where
  abbrev slot : ℕ → Slot
  slot x = record { 0 = x }

  pub covers_none : (set : NumberSet) → set.within.items ≡ [] → set.but.items ≡ []
      → CoversTo s kind 0 set
  covers_none set within but = record {
    within = λ x i. absurd (none_in set.within.items x within i);
    but = λ x i. absurd (none_in set.but.items x but i);
    free = λ x low. absurd (omega (arith, low));
  }

  pub free_below : (blocks : ℕ) → ((block : ℕ) → IsSome (use_of s block) → block ≤ blocks) → (x : ℕ)
      → IsFree s kind (slot x) → x < (blocks + 1) * ROWS
  free_below blocks used x f = omega (arith, used (block_of (slot x)) (ap is_some f.of_kind))

  pub covers_all : (set : NumberSet) (blocks : ℕ) → CoversTo s kind (blocks + 1) set
      → ((block : ℕ) → IsSome (use_of s block) → block ≤ blocks) → Has set (λ x. IsFree s kind (slot x))
  covers_all set blocks covers used = λ x. (
    λ m. (covers.free x (covers.within x m.within)).0 m,
    λ f. (covers.free x (free_below blocks used x f)).1 f,
  )

  module _ (block : ℕ) (old new : NumberSet) (covers : CoversTo s kind block old) where
    -- slots of the block are added, of which the free ones are within and not among the others
    covers_more : (P Q : ℕ → Type 0) → Adds old.within.items new.within.items P
        → Adds old.but.items new.but.items Q → ((x : ℕ) → P x → InBlock block x)
        → ((x : ℕ) → Q x → InBlock block x)
        → ((x : ℕ) → InBlock block x → (P x × (Q x → ⊥)) ↔ IsFree s kind (slot x))
        → CoversTo s kind (block + 1) new
    covers_more P Q within but p q free = record {
      within = λ x i. ⊎_elim (λ o. let low = covers.within x o in omega (arith, low))
          (λ h. let its = p x h in omega (arith, its.1)) ((within x).0 i);
      but = λ x i. ⊎_elim (λ o. let low = covers.but x o in omega (arith, low))
          (λ h. let its = q x h in omega (arith, its.1)) ((but x).0 i);
      free = λ x high. ⊎_elim (below x) (here x high) (cases_lt x (block * ROWS));
    }
      where
        below : (x : ℕ) → x < block * ROWS → IsMember new x ↔ IsFree s kind (slot x)
        below x low = (
          λ m. (covers.free x low).0 (record {
            within = ⊎_elim (λ o. o) (λ h. let its = p x h in absurd (omega (arith, low, its.0)))
                ((within x).0 m.within);
            but = λ o. m.but ((but x).1 (inl o));
          }),
          λ f. let m = (covers.free x low).1 f in record {
            within = (within x).1 (inl m.within);
            but = λ i. ⊎_elim m.but (λ h. let its = q x h in absurd (omega (arith, low, its.0)))
                ((but x).0 i);
          },
        )

        here : (x : ℕ) → x < (block + 1) * ROWS → block * ROWS ≤ x → IsMember new x ↔ IsFree s kind (slot x)
        here x high first =
            let own = free x (first, omega (arith, high)) in (
              λ m. own.0 (
                ⊎_elim (λ o. let low = covers.within x o in absurd (omega (arith, low, first))) (λ h. h)
                    ((within x).0 m.within),
                λ h. m.but ((but x).1 (inr h)),
              ),
              λ f. let its = own.1 f in record {
                within = (within x).1 (inr its.0);
                but = λ i. ⊎_elim (λ o. let low = covers.but x o in absurd (omega (arith, low, first))) its.1
                    ((but x).0 i);
              },
            )

    -- all slots of the block, but those that are not free
    pub covers_named :
        Adds old.within.items new.within.items (λ x. (block * ROWS ≤ x) × (x ≤ block * ROWS + ROWS - 1))
        → Adds old.but.items new.but.items
        (Between (block * ROWS) (block * ROWS + ROWS) (IsFreeAs s kind false))
        → CoversTo s kind (block + 1) new
    covers_named within but =
        covers_more (λ x. (block * ROWS ≤ x) × (x ≤ block * ROWS + ROWS - 1))
        (Between (block * ROWS) (block * ROWS + ROWS) (IsFreeAs s kind false)) within but
        (λ x h. (h.0, omega (arith, h.1))) (λ x h. (h.0, h.1)) (λ x its. (
          λ m. ⊎_elim (λ f. f) (λ none. absurd (m.1 (
            its.0,
            its.1,
            (λ f. absurd (none f), λ e. absurd (true≢false (sym e))),
          ))) (free_or_not s kind (slot x)),
          λ f. ((its.0, omega (arith, its.1)), λ h. true≢false (sym (h.2.0 f))),
        ))

    -- the free slots of the block
    pub covers_listed : Adds old.but.items new.but.items (λ _. ⊥)
        → Adds old.within.items new.within.items
        (Between (block * ROWS) (block * ROWS + ROWS) (IsFreeAs s kind true))
        → CoversTo s kind (block + 1) new
    covers_listed but within =
        covers_more (Between (block * ROWS) (block * ROWS + ROWS) (IsFreeAs s kind true)) (λ _. ⊥) within but
        (λ x h. (h.0, h.1)) (λ x none. absurd none) (λ x its. (
          λ m. m.0.2.1 refl,
          λ f. ((its.0, its.1, (λ _. refl, λ _. f)), λ none. none),
        ))
