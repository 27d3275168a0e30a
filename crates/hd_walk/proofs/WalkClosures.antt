-- What a walk has found is what chains lead to from what was found before.
use Rattle.std.proofs.Common.{◌≡◌, ℕ, ◌<◌, ◌+◌, true, List, length, Option, None, Some, Contains, sym, ap, ◌∙◌, subst, arith, ⊎_elim}
use Rattle.std.specs.Prelude.{slice_get}
use Rattle.std.proofs.lemmas.Bool.{cases_eq}
use Rattle.std.proofs.lemmas.Option.{same_Some, slice_get_within}
use Rattle.hd_model.specs.Leads.{IsClosure, Leads}
use Rattle.hd_walk.specs.declared.trail.Found.{Found}
use Rattle.hd_walk.specs.Trail.{is_found}
use Rattle.hd_walk.specs.Walk.{HasEnded, HasWalked}
use Rattle.hd_walk.proofs.Slices.{at_append, at_member, at_old}
use Rattle.hd_walk.proofs.TrailAdds.{HasAdded, found_at, found_more, spot_of}
use Rattle.hd_walk.proofs.WalkTurns.{ended_all, visit_added}

-- what edges lead to from the first of the found nodes is found
abbrev pub IsFollowed : (ℕ → ℕ → Type 0) → List Found → ℕ → Type 0
IsFollowed Edge found turn =
    (i : ℕ) (x : Found) (y : ℕ) → i < turn → slice_get found i ≡ Some x → Edge x.at y
    → is_found found y ≡ true

-- and all that is found is what chains lead to from what was
pub record IsGrown (Edge : ℕ → ℕ → Type 0) (old found : List Found) (turn : ℕ) : Type 0 where
  pub keeps : (x : ℕ) → is_found old x ≡ true → is_found found x ≡ true
  pub only : (x : ℕ) → is_found found x ≡ true → (r : ℕ) × ((is_found old r ≡ true) × Leads Edge r x)
  pub followed : IsFollowed Edge found turn

module _ {Edge Order : ℕ → ℕ → Type 0} {old found new : List Found} {turn : ℕ} (x : Found)
    (is : slice_get found turn ≡ Some x) (ys : List ℕ) (v : HasAdded Order ys (Some turn) found new)
    (to : (y : ℕ) → Contains ys y → Edge x.at y) (back : (y : ℕ) → Edge x.at y → Contains ys y)
    (g : IsGrown Edge old found turn) where
  found_kept : (y : ℕ) → is_found found y ≡ true → is_found new y ≡ true
  found_kept y h = subst (λ xs. is_found xs y ≡ true) (sym v.extends) (found_more found v.added y h)

  was : (i : ℕ) (y : Found) → i < length found → slice_get new i ≡ Some y → slice_get found i ≡ Some y
  was i y l at = at_old found v.added i y l (ap (λ xs. slice_get xs i) (sym v.extends) ∙ at)

  grown_only : (y : ℕ) → is_found new y ≡ true → (r : ℕ) × ((is_found old r ≡ true) × Leads Edge r y)
  grown_only y h =
      let spot = spot_of new y h in
      subst (λ z. (r : ℕ) × ((is_found old r ≡ true) × Leads Edge r z)) spot.at_is
      (⊎_elim (λ before. g.only spot.one.at (found_at found spot.index spot.one before))
      (λ late.
      let o = g.only x.at (found_at found turn x is) in
      let edge = to spot.one.at (v.only spot.one (at_member v.added late.0 spot.one late.2)).1 in
      (o.0, (o.1.0, Leads.more o.1.1 edge)))
      (at_append found v.added spot.index spot.one
      (ap (λ xs. slice_get xs spot.index) (sym v.extends) ∙ spot.is_one)))

  grown_turn : IsGrown Edge old new (turn + 1)
  grown_turn = record {
    keeps = λ y h. found_kept y (g.keeps y h);
    only = grown_only;
    followed = λ i y z below at e.
        let l = slice_get_within found turn x is in
        let before = was i y (omega arith) at in
        ⊎_elim
        (λ (here : i ≡ turn).
        v.all z (back z
        (subst (λ (w : Found). Edge w.at z)
        (same_Some y x (sym before ∙ ap (slice_get found) here ∙ is)) e)))
        (λ other. found_kept z (g.followed i y z (omega arith) before e)) (cases_eq i turn);
  }

module _ {Node : ℕ → Type 0} {Edge Order : ℕ → ℕ → Type 0} {old : List Found} {first : ℕ}
    (followed : IsFollowed Edge old first) where
  pub grown_walked : {goal : Option ℕ} {new : List Found} {turn : ℕ}
      → HasWalked Node Edge Order goal old first new turn → IsGrown Edge old new turn
  grown_walked HasWalked.none = record {
    keeps = λ x h. h;
    only = λ x h. (x, (h, Leads.here));
    followed = followed;
  }
  grown_walked (HasWalked.more {found = found} {turn = turn} x walked is other v) =
      grown_turn x is v.targets (visit_added v) v.are.only v.are.all (grown_walked walked)

  -- where all are visited
  pub closure_of : {goal : Option ℕ} {new : List Found} {turn : ℕ}
      → HasWalked Node Edge Order goal old first new turn → turn ≡ length new
      → IsClosure Edge (is_found old) (is_found new)
  closure_of {new = new} walked all =
      let g = grown_walked walked in record {
        keeps = g.keeps;
        closed = λ x y h e.
            let spot = spot_of new x h in
            let l = slice_get_within new spot.index spot.one spot.is_one in
            g.followed spot.index spot.one y (omega arith) spot.is_one
            (subst (λ z. Edge z y) (sym spot.at_is) e);
        only = g.only;
      }

  pub ended_closure : {new : List Found} {end : Option ℕ} → HasEnded Node Edge Order None old first new end
      → IsClosure Edge (is_found old) (is_found new)
  ended_closure e = closure_of e.walked (ended_all e)

-- before a walk none is visited
pub none_followed : (Edge : ℕ → ℕ → Type 0) (found : List Found) → IsFollowed Edge found 0
none_followed Edge found = λ i x y below at e. absurd (omega arith)
