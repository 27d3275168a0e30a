-- What a row that was read states of the handle there.
use Rattle.std.proofs.Common.{◌≡◌, ℕ, ◌+◌, ◌-◌, ◌*◌, ◌/◌, ◌%◌, ◌≤◌, true, List, Option, Some, None, refl, sym, ap, ◌∙◌, subst, arith, get_or}
use Rattle.std.specs.Prelude.{option_map}
use Rattle.std.proofs.lemmas.Option.{none-some, same_Some}
use Rattle.hd_model.specs.declared.data.Addr.{Addr}
use Rattle.hd_model.specs.State as state
use Rattle.hd_model.specs.State.{Handle, secondary_of}
use Rattle.hd_model.specs.Scene.{generation_at}
use Rattle.hd_model.specs.Ages.{age_of}
use Rattle.hd_model.specs.Heap.{Heap, has_object, object_at}
use Rattle.hd_model.specs.Table.{Table, row_at}
use Rattle.hd_ages.specs.Clumps.{clump_at}
use Rattle.hd_seg.specs.declared.row.Row.{Row}
use Rattle.hd_model.specs.Handles.{extra_of}
use Rattle.hd_seg.specs.Row.{extra_from, row_of}
use Rattle.hd_rows.specs.Inside.{IsPlain}

extra_again : (e : state.Extra Addr) → extra_of (extra_from e) ≡ e
extra_again state.nothing = refl
extra_again (state.strength s) = refl
extra_again (state.secondary o) = refl
extra_again (state.count c) = refl

module _ (h : Heap) (t : Table) (ages : List ℕ) (slot : ℕ) (read : Option Row)
    (value : read ≡ option_map row_of (row_at t slot)) where
  pub vacant : read ≡ None → (g : Handle Addr) → row_at t slot ≡ Some g → IsPlain h ages slot g
  vacant none g is_stored =
      absurd (none-some (row_of g) (sym none ∙ value ∙ ap (option_map row_of) is_stored))

  module _ (r : Row) (is : read ≡ Some r) (single : secondary_of (extra_of r.extra) ≡ None) where
    row_is : (g : Handle Addr) → row_at t slot ≡ Some g → row_of g ≡ r
    row_is g is_stored =
        same_Some (row_of g) r (sym (ap (option_map row_of) is_stored) ∙ sym value ∙ is)

    no_secondary : (g : Handle Addr) → row_at t slot ≡ Some g → secondary_of g.extra ≡ None
    no_secondary g is_stored =
        ap secondary_of (sym (extra_again g.extra))
        ∙ ap (λ (q : Row). secondary_of (extra_of q.extra)) (row_is g is_stored) ∙ single

    pub plain_null : r.target ≡ None → (g : Handle Addr) → row_at t slot ≡ Some g → IsPlain h ages slot g
    plain_null none g is_stored =
        let null : g.target ≡ None = ap (λ (q : Row). q.target) (row_is g is_stored) ∙ none in record {
          object = λ x e. absurd (none-some x (sym null ∙ e));
          age = λ x e. absurd (none-some x (sym null ∙ e));
          alone = no_secondary g is_stored;
        }

    pub plain_at : (a : Addr) → r.target ≡ Some a → has_object h a ≡ true
        → age_of ages slot ≤ generation_at (object_at h) a → (g : Handle Addr) → row_at t slot ≡ Some g
        → IsPlain h ages slot g
    plain_at a at object low g is_stored =
        let same : (x : Addr) → g.target ≡ Some x → a ≡ x =
        λ x e. same_Some a x (sym at ∙ sym (ap (λ (q : Row). q.target) (row_is g is_stored)) ∙ e) in
        record {
          object = λ x e. subst (λ (y : Addr). has_object h y ≡ true) (same x e) object;
          age = λ x e. subst (λ (y : Addr). age_of ages slot ≤ generation_at (object_at h) y) (same x e) low;
          alone = no_secondary g is_stored;
        }

-- the clump of a slot, by its block
pub clump_is : (ages : List ℕ) (slot : ℕ)
    → get_or ages (clump_at (slot / 64) (slot % 64 / 16)) 0 ≡ age_of ages slot
clump_is ages slot =
    let places : 4 * (slot / 64) + slot % 64 / 16 - 4 ≡ slot / 16 - 4 = omega arith in
    ap (λ k. get_or ages k 0) places
