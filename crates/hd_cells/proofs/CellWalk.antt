-- Lemmas on the way through a region from one object or gap to the next.
use Rattle.hd_cells.proofs.Basics.{Contents, IsEnd, IsFirstFrom, IsFirstIn, IsObject, IsReached, IsRegion, IsTiled, List, None, Object, Option, Some, [], ap, arith, body, cases_eq, cell, contents_of, ended, extent_at, false, gap, inl, inr, is_some, nat_cmp, none-some, object_in, objects_of, refl, subst, sym, ℕ, ◌+◌, ◌<◌, ◌∙◌, ◌∷◌, ◌≡◌, ◌≢◌, ◌≤◌}
use Rattle.hd_cells.proofs.OffsetLookup.{find_here, find_beyond}
use Rattle.hd_cells.proofs.RegionTiles.{extent_at-gap, extent_at-body, tiled_upwards, none_before, none_beyond, found}
use Rattle.hd_cells.proofs.Contents.{get-objects, IsRead, held}
use Rattle.std.specs.FinMap as map

-- from the first cell on nothing is left out
pub start_reached : (c : List ℕ) (fill from : ℕ) → IsRegion c fill → IsReached c fill from 0
start_reached c fill from laid =
    record { rest = objects_of c fill; tiled = laid.tiled; skipped = λ q low. refl }

-- what remains after an object or gap
pub record IsStep (c : List ℕ) (stop from at : ℕ) (os : List (ℕ × Object)) : Type 0 where
  pub rest : List (ℕ × Object)
  pub tiled : IsTiled c stop (at + extent_at c at) rest
  pub skipped : (q : ℕ) → from ≤ q → map.find nat_cmp q os ≡ map.find nat_cmp q rest
  pub long : 3 ≤ extent_at c at

tile_step : {c : List ℕ} {stop at : ℕ} {os : List (ℕ × Object)} → IsTiled c stop at os → (from : ℕ)
    → at < stop → (cell c at ≢ 0 → at < from) → IsStep c stop from at os
tile_step ended from below early = absurd (omega arith)
tile_step {os = os} (gap g t) from below early =
    let reach = extent_at-gap g in
    let long = g.long in
    record { rest = os; tiled = t; skipped = λ q low. refl; long = omega arith }
tile_step {c} {at = at} {os = (k, o) ∷ os} (body b t) from below early =
    let reach = extent_at-body b in
    let first = early b.identified in
    record {
      rest = os;
      tiled = t;
      skipped = λ q low. find_beyond q at (object_in c at) os (λ e. omega (arith, e));
      long = omega arith;
    }

-- what is known once an object or gap that is no object at or after `from` is passed
pub record IsPassed (c : List ℕ) (fill from at : ℕ) : Type 0 where
  pub reached : IsReached c fill from (at + extent_at c at)
  pub long : 3 ≤ extent_at c at
  pub within : at + extent_at c at ≤ fill

pub passed : (c : List ℕ) (fill from at : ℕ) → IsReached c fill from at → at < fill
    → (cell c at ≢ 0 → at < from) → IsPassed c fill from at
passed c fill from at reached below early =
    let step = tile_step reached.tiled from below early in
    record {
      reached = record {
        rest = step.rest;
        tiled = step.tiled;
        skipped = λ q low. reached.skipped q low ∙ step.skipped q low;
      };
      long = step.long;
      within = tiled_upwards step.tiled;
    }

-- a tiling that has come to its end has no object left
tiling_ended : {c : List ℕ} {stop at : ℕ} {os : List (ℕ × Object)} → IsTiled c stop at os → stop ≤ at
    → os ≡ []
tiling_ended ended past = refl
tiling_ended (gap g t) past =
    let up = tiled_upwards t in
    let reach = extent_at-gap g in
    let long = g.long in
    absurd (omega arith)
tiling_ended (body b t) past =
    let up = tiled_upwards t in
    let reach = extent_at-body b in
    absurd (omega arith)

-- an offset that is reached is at most the allocation pointer
pub reached_within : (c : List ℕ) (fill from at : ℕ) → IsReached c fill from at → at ≤ fill
reached_within c fill from at reached = tiled_upwards reached.tiled

-- where the end is reached, there is no object at or after `from`
pub none_reached : (c : List ℕ) (fill from at : ℕ) → IsReached c fill from at → fill ≤ at
    → IsFirstIn c fill from None
none_reached c fill from at reached past = λ q low. reached.skipped q low
    ∙ ap (map.find nat_cmp q) (tiling_ended reached.tiled past)

-- what is found where an object begins
object_here : {c : List ℕ} {stop at : ℕ} {os : List (ℕ × Object)} → IsTiled c stop at os → at < stop
    → cell c at ≢ 0 → map.find nat_cmp at os ≡ Some (object_in c at)
object_here ended below named = absurd (omega arith)
object_here (gap g t) below named = absurd (named g.unnamed)
object_here {c} {at = at} {os = (k, o) ∷ os} (body b t) below named = find_here at at (object_in c at) os refl

-- an object that is reached is the first at or after `from`
pub object_reached : (c : List ℕ) (fill from at : ℕ) → IsReached c fill from at → at < fill → from ≤ at
    → cell c at ≢ 0 → IsFirstIn c fill from (Some at)
object_reached c fill from at reached below low named = (
  low,
  reached.skipped at low ∙ object_here reached.tiled below named,
  λ q from_q before. reached.skipped q from_q ∙ none_before reached.tiled q before,
)

-- an offset has an object where one is found in the cells, and else none
found_object : (c : List ℕ) (fill q : ℕ) (o : Object) → map.find nat_cmp q (objects_of c fill) ≡ Some o
    → IsObject (contents_of c fill) q
found_object c fill q o e = ap is_some (get-objects c fill q ∙ e)

found_none : (c : List ℕ) (fill q : ℕ) → map.find nat_cmp q (objects_of c fill) ≡ None
    → ¬ (IsObject (contents_of c fill) q)
found_none c fill q e is =
    let none : is_some (map.get (contents_of c fill).objects q) ≡ false =
    ap is_some (get-objects c fill q ∙ e) in
    absurd (cc (none, is))

-- the first object of the cells is the first that callers see
first_in_cells : (c : List ℕ) (fill from : ℕ) (answer : Option ℕ) → IsFirstIn c fill from answer
    → IsFirstFrom (contents_of c fill) from answer
first_in_cells c fill from None none = λ q low. found_none c fill q (none q low)
first_in_cells c fill from (Some at) first = (
  first.0,
  found_object c fill at (object_in c at) first.1,
  λ q low below. found_none c fill q (first.2 q low below),
)

pub first_seen : (c : List ℕ) (fill : ℕ) (r : Contents) (from : ℕ) (answer : Option ℕ)
    → contents_of c fill ≡ r → IsFirstIn c fill from answer → IsFirstFrom r from answer
first_seen c fill r from answer view first =
    let P : Contents → Type 0 = λ x. IsFirstFrom x from answer in
    subst P view (first_in_cells c fill from answer first)

-- what comes after an object that is found in a tiling
beyond_object : {c : List ℕ} {stop from : ℕ} {os : List (ℕ × Object)} → IsTiled c stop from os
    → (at : ℕ) (o : Object) → map.find nat_cmp at os ≡ Some o → IsStep c stop (at + 1) at os
beyond_object ended at o e = absurd (none-some o e)
beyond_object (gap g t) at o e = beyond_object t at o e
beyond_object {c} {stop} {from} {os = (k, x) ∷ os} (body b t) at o e =
    let reach = extent_at-body b in
    elim (cases_eq at from) [
      | inl same ↦
          let P : ℕ → Type 0 = λ n. IsStep c stop (n + 1) n ((from, object_in c from) ∷ os) in
          subst P (sym same) record {
            rest = os;
            tiled = t;
            skipped = λ q low. find_beyond q from (object_in c from) os (λ is. omega (arith, is));
            long = omega arith;
          }
      | inr other ↦
          let later = beyond_object t at o (sym (find_beyond at from (object_in c from) os other) ∙ e) in
          let up = found t at o (sym (find_beyond at from (object_in c from) os other) ∙ e) in
          let low = up.low in
          record {
            rest = later.rest;
            tiled = later.tiled;
            skipped = λ q after. find_beyond q from
                (object_in c from) os (λ is. omega (arith, is)) ∙ later.skipped q after;
            long = later.long;
          }
    ]

-- after an object no other object at a higher offset is left out
pub object_passed : {c : List ℕ} {fill : ℕ} {r : Contents} → IsRead c fill r → (at : ℕ) → IsObject r at
    → IsReached c fill (at + 1) (at + extent_at c at)
object_passed {c} read at is =
    let step = beyond_object read.region.tiled at (object_in c at) (held read at is).finds in
    record { rest = step.rest; tiled = step.tiled; skipped = step.skipped }

-- past the allocation pointer there is no object
pub none_past : {c : List ℕ} {fill : ℕ} {r : Contents} → IsRead c fill r → (from : ℕ) → fill ≤ from
    → IsFirstFrom r from None
none_past {c} {fill} {r} read from past =
    first_seen c fill r from None read.view
    (λ q low. none_beyond read.region.tiled q (omega (arith, past, low)))

-- where an object ends nothing at or after it is left out
pub end_reached : {c : List ℕ} {fill : ℕ} {r : Contents} → IsRead c fill r → (from : ℕ) → IsEnd r from
    → IsReached c fill from from
end_reached {c} {fill} read from (inl first) =
    subst (λ (n : ℕ). IsReached c fill n n) (sym first) (start_reached c fill 0 read.region)
end_reached {c} {fill} read from (inr (at, (is, ends))) =
    let h = held read at is in
    let next = object_passed read at is in
    let here : at + extent_at c at ≡ from = omega (arith, h.reach, h.count, ends) in
    subst (λ (n : ℕ). IsReached c fill from n) here record {
      rest = next.rest;
      tiled = next.tiled;
      skipped = λ q low. next.skipped q (omega (arith, low, ends));
    }
