-- The callers that do not move are where they were.
use Rattle.hd_script.proofs.Basics.{IsSome, IsWellFormed, List, None, Slot, Some, State, ap, arith, cases_eq, false≢true, get_or-set_other, get_or-set_same, handle_at, handle_register_of, is_some, length, length-set, load_numbers, set, subst, sum_by-set, sym, total_size, ℕ, ⊎_elim, ◌*◌, ◌+◌, ◌<◌, ◌∙◌, ◌≡◌, ◌≤◌, ◌⊎◌}
use Rattle.hd_script.proofs.LoadPosition.{Line, news, hnews, vals, hgets, reads, drops, others, frees, collects, Index, Owns, AnyValue, OwnsBy, IsAtIndex, Frame, nowhere, at, left_of, Fits}

module _ (s t : State) (c d : ℕ) (frame : Frame s t c) (apart : d ≡ c → ⊥) where
  owns_stays : (V : ℕ → Type 0) → Owns s d V → Owns t d V
  owns_stays V o = record {
    id = o.id;
    names = frame.registers d apart ∙ o.names;
    own = o.own;
    value = subst V (sym (frame.values d o.id apart o.names o.own)) o.value;
  }

  owns_by_stays : (line : Line) (j : ℕ) → OwnsBy s d line j → OwnsBy t d line j
  owns_by_stays news j o = tt
  owns_by_stays hnews j o = owns_stays AnyValue o
  owns_by_stays vals j o = owns_stays AnyValue o
  owns_by_stays hgets j o = owns_stays (λ v. v ≡ j) o
  owns_by_stays reads j o = owns_stays (λ v. v ≡ j) o
  owns_by_stays drops j o = tt
  owns_by_stays others j o = tt
  owns_by_stays frees j o = tt
  owns_by_stays collects j o = tt

  pub index_stays : (p : Index) → ((x : Slot) → p.held ≡ Some x → handle_register_of s c 0 ≡ Some x → ⊥)
      → IsAtIndex s d p → IsAtIndex t d p
  index_stays p mine at_index = record {
    owns = owns_by_stays p.line p.round at_index.owns;
    held = frame.handle_registers d apart ∙ at_index.held;
    empty = at_index.empty;
    live = λ x e. frame.live x (mine x e) (at_index.live x e);
  }

-- one caller moves to its next position
module _ (s t : State) (indexes : List Index) (c : ℕ) (next : Index) (fits : Fits s indexes) (small : c < 4)
    (frame : Frame s t c) where
  within : c < length indexes
  within = omega (arith, fits.four)

  here : at (set indexes c next) c ≡ next
  here = get_or-set_same indexes c next nowhere within

  beside : (d : ℕ) → (d ≡ c → ⊥) → at (set indexes c next) d ≡ at indexes d
  beside d apart = get_or-set_other indexes c d next nowhere apart

  -- the slot that the caller holds then it held before, or nobody did
  abbrev IsFresh : Type 0
  IsFresh = (x : Slot) → next.held ≡ Some x → ((at indexes c).held ≡ Some x) ⊎ (handle_at s x ≡ None)

  not_live : (x : Slot) → IsSome (handle_at s x) → handle_at s x ≡ None → ⊥
  not_live x live none = false≢true (sym (ap is_some none) ∙ live)

  apart_from : IsFresh → (d : ℕ) → d < 4 → (d ≡ c → ⊥) → (x : Slot) → next.held ≡ Some x
      → (at indexes d).held ≡ Some x → ⊥
  apart_from fresh d small_d apart x new old =
      ⊎_elim (λ (kept : (at indexes c).held ≡ Some x). fits.apart d c small_d small apart x old kept)
      (λ (none : handle_at s x ≡ None). not_live x ((fits.at_index d small_d).live x old) none) (fresh x new)

  pub fits_moved : IsWellFormed load_numbers t → IsAtIndex t c next
      → total_size t + 10 * next.left ≤ total_size s + 10 * (at indexes c).left
      → IsFresh → Fits t (set indexes c next)
  fits_moved well at_index room fresh = record {
    four = length-set indexes c next ∙ fits.four;
    well = well;
    room = omega (arith, sum_by-set left_of indexes c next nowhere within, fits.room, room);
    at_index = λ d small_d. ⊎_elim
        (λ (e : d ≡ c). subst (λ (k : ℕ). IsAtIndex t k (at (set indexes c next) k)) (sym e)
        (subst (IsAtIndex t c) (sym here) at_index))
        (λ (ne : d ≡ c → ⊥). subst (IsAtIndex t d) (sym (beside d ne))
        (index_stays s t c d frame ne (at indexes d)
        (λ x e g. fits.apart d c small_d small ne x e (sym (fits.at_index c small).held ∙ g))
        (fits.at_index d small_d)))
        (cases_eq d c);
    apart = λ b d small_b small_d ne x e g. ⊎_elim
        (λ (mine : b ≡ c). ⊎_elim
        (λ (too : d ≡ c). ne (mine ∙ sym too))
        (λ (other : d ≡ c → ⊥). apart_from fresh d small_d other x
        (sym (ap (λ (p : Index). p.held) (ap (at (set indexes c next)) mine ∙ here)) ∙ e)
        (sym (ap (λ (p : Index). p.held) (beside d other)) ∙ g))
        (cases_eq d c))
        (λ (other : b ≡ c → ⊥). ⊎_elim
        (λ (mine : d ≡ c). apart_from fresh b small_b other x
        (sym (ap (λ (p : Index). p.held) (ap (at (set indexes c next)) mine ∙ here)) ∙ g)
        (sym (ap (λ (p : Index). p.held) (beside b other)) ∙ e))
        (λ (others : d ≡ c → ⊥). fits.apart b d small_b small_d ne x
        (sym (ap (λ (p : Index). p.held) (beside b other)) ∙ e)
        (sym (ap (λ (p : Index). p.held) (beside d others)) ∙ g))
        (cases_eq d c))
        (cases_eq b c);
  }
