-- The order in which a walk finds nodes: the one before a found node never falls along a trail.
use Rattle.std.proofs.Common.{◌≡◌, ◌≢◌, ℕ, ◌+◌, ◌<◌, ◌≤◌, false, List, [], length, Option, Some, None, MatchOption, Contains, sym, ap, ◌∙◌, subst, arith, length-append, ⊎_elim, ◌⊎◌}
use Rattle.std.specs.Prelude.{slice_get}
use Rattle.std.proofs.lemmas.Bool.{cases_eq, false≢true}
use Rattle.std.proofs.lemmas.Option.{same_Some, slice_get_within}
use Rattle.hd_walk.specs.declared.trail.Found.{Found}
use Rattle.hd_walk.specs.Trail.{IsFalling}
use Rattle.hd_walk.specs.Walk.{AreNodes, HasEnded, HasWalked, IsAtGoal, Visits, is_goal}
use Rattle.hd_walk.proofs.Slices.{at_append, at_left, at_member, at_old, at_pair}
use Rattle.hd_walk.proofs.TrailAdds.{HasAdded, added_to, spot_of}

-- the number of turns when a node was found
abbrev pub turn_of : Option ℕ → ℕ
turn_of None = 0
turn_of (Some j) = j + 1

-- a node was found by an edge from an earlier one
pub record IsReached (Edge : ℕ → ℕ → Type 0) (found : List Found) (i y j : ℕ) : Type 0 where
  pub before : Found
  pub is_before : slice_get found j ≡ Some before
  pub earlier : j < i
  pub edge : Edge before.at y

-- a node is found, after a number of turns at most
pub record IsWithin (found : List Found) (y bound : ℕ) : Type 0 where
  pub index : ℕ
  pub one : Found
  pub is_one : slice_get found index ≡ Some one
  pub at_is : one.at ≡ y
  pub soon : turn_of one.before ≤ bound

-- what a visit adds
module _ {Node Target : ℕ → Type 0} {Order : ℕ → ℕ → Type 0} {turn : ℕ} {old new : List Found}
    (v : Visits Node Target Order turn old new) where
  pub visit_added : HasAdded Order v.targets (Some turn) old new
  visit_added = added_to Order (Some turn) v.found v.are.ordered

  pub visit_longer : length old ≤ length new
  visit_longer =
      let l = ap length visit_added.extends in
      let m = length-append old visit_added.added in omega arith

  pub visit_nodes : AreNodes Node old → AreNodes Node new
  visit_nodes nodes i x at =
      ⊎_elim (λ before. nodes i x before)
      (λ late. v.are.nodes x.at
      (visit_added.only x (at_member visit_added.added late.0 x late.2)).1)
      (at_append old visit_added.added i x (ap (λ xs. slice_get xs i) (sym visit_added.extends) ∙ at))

-- what is so after a number of turns. Starts come in one order, and what was found at one turn in another.
pub record IsBreadthFirst (Edge : ℕ → ℕ → Type 0) (Start : ℕ → Type 0) (First Less : ℕ → ℕ → Type 0)
    (found : List Found) (turn : ℕ) : Type 0 where
  pub steps : (i : ℕ) (x : Found) → slice_get found i ≡ Some x
      → MatchOption x.before (Start x.at) (IsReached Edge found i x.at)
  pub rising : (i j : ℕ) (x y : Found) → i ≤ j → slice_get found i ≡ Some x → slice_get found j ≡ Some y
      → turn_of x.before ≤ turn_of y.before
  pub past : (i : ℕ) (x : Found) → slice_get found i ≡ Some x → turn_of x.before ≤ turn
  pub siblings : (i j : ℕ) (x y : Found) → i < j → slice_get found i ≡ Some x → slice_get found j ≡ Some y
      → x.before ≡ y.before → MatchOption x.before (First x.at y.at) (λ _. Less x.at y.at)
  pub started : (y : ℕ) → Start y → IsWithin found y 0
  pub followed : (i : ℕ) (x : Found) (y : ℕ) → i < turn → slice_get found i ≡ Some x → Edge x.at y
      → IsWithin found y (i + 1)

module _ (Order Edge : ℕ → ℕ → Type 0) (Start : ℕ → Type 0) (First Less : ℕ → ℕ → Type 0) where
  -- the starts are found
  module _ (strict : (x y : ℕ) → Order x y → x ≢ y → First x y) (starts : List ℕ) (found : List Found)
      (v : HasAdded Order starts None [] found) (to : (y : ℕ) → Start y → Contains starts y)
      (from : (y : ℕ) → Contains starts y → Start y) where
    added_at : (i : ℕ) (x : Found) → slice_get found i ≡ Some x → slice_get v.added i ≡ Some x
    added_at i x at = ap (λ xs. slice_get xs i) (sym v.extends) ∙ at

    is_start : (i : ℕ) (x : Found) → slice_get found i ≡ Some x → (x.before ≡ None) × Start x.at
    is_start i x at = let o = v.only x (at_member v.added i x (added_at i x at)) in (o.0, from x.at o.1)

    no_turn : (i : ℕ) (x : Found) → slice_get found i ≡ Some x → turn_of x.before ≡ 0
    no_turn i x at = ap turn_of (is_start i x at).0

    pub breadth_start : IsBreadthFirst Edge Start First Less found 0
    breadth_start = record {
      steps = λ i x at.
          let s = is_start i x at in
          subst (λ o. MatchOption o (Start x.at) (IsReached Edge found i x.at)) (sym s.0) s.1;
      rising = λ i j x y le at there. let a = no_turn i x at in let b = no_turn j y there in omega arith;
      past = λ i x at. let a = no_turn i x at in omega arith;
      siblings = λ i j x y lt at there e.
          let both =
          at_pair (λ (p q : Found). Order p.at q.at × (p.at ≢ q.at)) v.added i j x y v.ordered lt
          (added_at i x at) (added_at j y there) in
          subst (λ o. MatchOption o (First x.at y.at) (λ _. Less x.at y.at)) (sym (is_start i x at).0)
          (strict x.at y.at both.0 both.1);
      started = λ y s.
          let spot = spot_of found y (v.all y (to y s)) in record {
            index = spot.index;
            one = spot.one;
            is_one = spot.is_one;
            at_is = spot.at_is;
            soon = let a = no_turn spot.index spot.one spot.is_one in omega arith;
          };
      followed = λ i x y lt at e. absurd (omega arith);
    }

  -- one node is visited
  module _ (strict : (x y : ℕ) → Order x y → x ≢ y → Less x y) (found new : List Found) (turn : ℕ)
      (one : Found) (is_one : slice_get found turn ≡ Some one) (ys : List ℕ)
      (v : HasAdded Order ys (Some turn) found new) (to : (y : ℕ) → Contains ys y → Edge one.at y)
      (back : (y : ℕ) → Edge one.at y → Contains ys y)
      (b : IsBreadthFirst Edge Start First Less found turn) where
    abbrev Late : ℕ → Found → Type 0
    Late i x = (k : ℕ) × (i ≡ length found + k) × (slice_get v.added k ≡ Some x)

    early_late : (i : ℕ) (x : Found) → slice_get new i ≡ Some x → (slice_get found i ≡ Some x) ⊎ Late i x
    early_late i x at = at_append found v.added i x (ap (λ xs. slice_get xs i) (sym v.extends) ∙ at)

    kept : (i : ℕ) (x : Found) → slice_get found i ≡ Some x → slice_get new i ≡ Some x
    kept i x at = ap (λ xs. slice_get xs i) v.extends ∙ at_left found v.added i x at

    within_kept : (y bound : ℕ) → IsWithin found y bound → IsWithin new y bound
    within_kept y bound w = record {
      index = w.index;
      one = w.one;
      is_one = kept w.index w.one w.is_one;
      at_is = w.at_is;
      soon = w.soon;
    }

    inside : turn < length found
    inside = slice_get_within found turn one is_one

    late_is : {i : ℕ} {x : Found} → Late i x → (x.before ≡ Some turn) × Contains ys x.at
    late_is {x = x} r = v.only x (at_member v.added r.0 x r.2)

    late_turn : {i : ℕ} {x : Found} → Late i x → turn_of x.before ≡ turn + 1
    late_turn r = ap turn_of (late_is r).0

    not_late : {i j : ℕ} {x y : Found} → i ≤ j → slice_get found j ≡ Some y → Late i x → ⊥
    not_late {j = j} {y = y} le at r = let l = slice_get_within found j y at in let e = r.1 in omega arith

    past_new : (i : ℕ) (x : Found) → slice_get new i ≡ Some x → turn_of x.before ≤ turn + 1
    past_new i x at =
        ⊎_elim (λ old. let p = b.past i x old in omega arith) (λ r. let t = late_turn r in omega arith)
        (early_late i x at)

    reached_kept : (i y : ℕ) (o : Option ℕ) → MatchOption o (Start y) (IsReached Edge found i y)
        → MatchOption o (Start y) (IsReached Edge new i y)
    reached_kept i y None s = s
    reached_kept i y (Some j) r = record {
      before = r.before;
      is_before = kept j r.before r.is_before;
      earlier = r.earlier;
      edge = r.edge;
    }

    steps_new : (i : ℕ) (x : Found) → slice_get new i ≡ Some x
        → MatchOption x.before (Start x.at) (IsReached Edge new i x.at)
    steps_new i x at =
        ⊎_elim (λ old. reached_kept i x.at x.before (b.steps i x old))
        (λ r. subst (λ o. MatchOption o (Start x.at) (IsReached Edge new i x.at)) (sym (late_is r).0)
        (record {
          before = one;
          is_before = kept turn one is_one;
          earlier = let l = inside in let e = r.1 in omega arith;
          edge = to x.at (late_is r).1;
        }))
        (early_late i x at)

    rising_new : (i j : ℕ) (x y : Found) → i ≤ j → slice_get new i ≡ Some x → slice_get new j ≡ Some y
        → turn_of x.before ≤ turn_of y.before
    rising_new i j x y le at there =
        ⊎_elim
        (λ old_j. ⊎_elim (λ old_i. b.rising i j x y le old_i old_j)
        (λ r. absurd (not_late le old_j r)) (early_late i x at))
        (λ r. let t = late_turn r in let p = past_new i x at in omega arith) (early_late j y there)

    siblings_new : (i j : ℕ) (x y : Found) → i < j → slice_get new i ≡ Some x → slice_get new j ≡ Some y
        → x.before ≡ y.before → MatchOption x.before (First x.at y.at) (λ _. Less x.at y.at)
    siblings_new i j x y lt at there e =
        ⊎_elim
        (λ old_j. ⊎_elim (λ old_i. b.siblings i j x y lt old_i old_j e)
        (λ r. absurd (not_late (omega arith) old_j r)) (early_late i x at))
        (λ late_j. ⊎_elim
        (λ old_i. absurd (let p = b.past i x old_i in let t = late_turn late_j in
        let s = ap turn_of e in omega arith))
        (λ late_i. let k = late_i.1 in let l = late_j.1 in
        let both =
        at_pair (λ (p q : Found). Order p.at q.at × (p.at ≢ q.at)) v.added late_i.0 late_j.0 x y v.ordered
        (omega arith) late_i.2 late_j.2 in
        subst (λ o. MatchOption o (First x.at y.at) (λ _. Less x.at y.at)) (sym (late_is late_i).0)
        (strict x.at y.at both.0 both.1))
        (early_late i x at))
        (early_late j y there)

    followed_new : (i : ℕ) (x : Found) (y : ℕ) → i < turn + 1 → slice_get new i ≡ Some x → Edge x.at y
        → IsWithin new y (i + 1)
    followed_new i x y lt at e =
        let l = inside in
        ⊎_elim
        (λ (here : i ≡ turn).
        let same : one ≡ x =
        same_Some one x (sym (kept turn one is_one) ∙ ap (slice_get new) (sym here) ∙ at) in
        let spot = spot_of new y (v.all y (back y (subst (λ (z : Found). Edge z.at y) (sym same) e))) in
        record {
          index = spot.index;
          one = spot.one;
          is_one = spot.is_one;
          at_is = spot.at_is;
          soon = let p = past_new spot.index spot.one spot.is_one in omega arith;
        })
        (λ other. within_kept y (i + 1)
        (b.followed i x y (omega arith)
        (at_old found v.added i x (omega arith) (ap (λ xs. slice_get xs i) (sym v.extends) ∙ at)) e))
        (cases_eq i turn)

    breadth_turn : IsBreadthFirst Edge Start First Less new (turn + 1)
    breadth_turn = record {
      steps = steps_new;
      rising = rising_new;
      past = past_new;
      siblings = siblings_new;
      started = λ y s. within_kept y 0 (b.started y s);
      followed = followed_new;
    }

  -- and so are several
  pub breadth_walked : (strict : (x y : ℕ) → Order x y → x ≢ y → Less x y) {Node : ℕ → Type 0}
      {goal : Option ℕ} {old : List Found} {first : ℕ} {new : List Found} {turn : ℕ}
      → IsBreadthFirst Edge Start First Less old first
      → HasWalked Node Edge Order goal old first new turn → IsBreadthFirst Edge Start First Less new turn
  breadth_walked strict b HasWalked.none = b
  breadth_walked strict b (HasWalked.more {found = found} {new = new} {turn = turn} x walked is other v) =
      breadth_turn strict found new turn x is v.targets (visit_added v) v.are.only v.are.all
      (breadth_walked strict b walked)

-- a walk without a goal visits all
pub ended_all : {Node : ℕ → Type 0} {Edge Order : ℕ → ℕ → Type 0} {old new : List Found} {first : ℕ}
    {end : Option ℕ} → (e : HasEnded Node Edge Order None old first new end) → e.turn ≡ length new
ended_all {new = new} {end = end} e = by end e.ends
  where
    by : (o : Option ℕ) → MatchOption o (e.turn ≡ length new) (IsAtGoal None new e.turn)
        → e.turn ≡ length new
    by None all = all
    by (Some last) at = absurd (false≢true at.at_goal)

-- what is found are nodes
pub walked_nodes : {Node : ℕ → Type 0} {Edge Order : ℕ → ℕ → Type 0} {goal : Option ℕ} {old : List Found}
    {first : ℕ} {new : List Found} {turn : ℕ} → HasWalked Node Edge Order goal old first new turn
    → AreNodes Node old
    → AreNodes Node new
walked_nodes HasWalked.none nodes = nodes
walked_nodes (HasWalked.more x walked is other v) nodes = visit_nodes v (walked_nodes walked nodes)

-- each was found from an earlier one
pub breadth_falls : {Edge : ℕ → ℕ → Type 0} {Start : ℕ → Type 0} {First Less : ℕ → ℕ → Type 0}
    {found : List Found} {turn : ℕ} → IsBreadthFirst Edge Start First Less found turn → IsFalling found
breadth_falls {Edge = Edge} {Start = Start} {found = found} b i j x at before =
    let r : IsReached Edge found i x.at j =
    subst (λ o. MatchOption o (Start x.at) (IsReached Edge found i x.at)) before (b.steps i x at) in
    r.earlier

-- none of the visited nodes is the goal
pub walked_past : {Node : ℕ → Type 0} {Edge Order : ℕ → ℕ → Type 0} {goal : Option ℕ} {old : List Found}
    {first : ℕ} {new : List Found} {turn : ℕ} → HasWalked Node Edge Order goal old first new turn
    → (i : ℕ) (x : Found) → first ≤ i
    → i < turn → slice_get new i ≡ Some x → is_goal goal x.at ≡ false
walked_past HasWalked.none i x from below at = absurd (omega arith)
walked_past {goal = goal} (HasWalked.more {found = found} {turn = turn} y walked is other v) i x from below
    at =
    let a = visit_added v in
    let inside = slice_get_within found turn y is in
    let was : slice_get found i ≡ Some x =
    at_old found a.added i x (omega arith) (ap (λ xs. slice_get xs i) (sym a.extends) ∙ at) in
    ⊎_elim
    (λ (here : i ≡ turn).
    subst (λ (z : Found). is_goal goal z.at ≡ false)
    (same_Some y x (sym is ∙ ap (slice_get found) (sym here) ∙ was)) other)
    (λ earlier. walked_past walked i x from (omega arith) was) (cases_eq i turn)
