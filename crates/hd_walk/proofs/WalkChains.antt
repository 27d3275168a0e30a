-- The chain of a found node is the least of all chains to it: the shortest, from the first start of those,
-- and by the order of targets.
use Rattle.std.proofs.Common.{◌≡◌, ℕ, zero, suc, ◌+◌, ◌<◌, ◌≤◌, List, [], ◌∷◌, ◌++◌, length, Option, Some, None, MatchOption, refl, sym, ap, ◌∙◌, subst, arith, ⊎_elim, inl, inr, ◌⊎◌}
use Rattle.std.specs.Prelude.{slice_get, reverse}
use Rattle.std.proofs.lemmas.Bool.{cases_lt}
use Rattle.std.proofs.lemmas.List.{append-nil, append_assoc, length_push, reverse-append}
use Rattle.std.proofs.lemmas.Option.{none-some, same_Some, slice_get_within}
use Rattle.hd_walk.specs.declared.trail.Found.{Found}
use Rattle.hd_walk.specs.Chains.{IsWalk}
use Rattle.hd_walk.proofs.LeastChains.{IsEarlier, IsLeast, IsNoLater}
use Rattle.hd_walk.specs.Trail.{IsReadBack}
use Rattle.hd_walk.proofs.Slices.{some_at}
use Rattle.hd_walk.proofs.ChainOrders.{walk_push, push_earlier, push_last, push_no_later, longer, no_later_on}
use Rattle.hd_walk.proofs.WalkTurns.{IsBreadthFirst, IsReached, IsWithin, turn_of}

-- the chain of a found node: its start, and the nodes after it
pub data IsTraced (found : List Found) : ℕ → ℕ → List ℕ → Type 0 where
  opens : {i : ℕ} → (x : Found) → slice_get found i ≡ Some x → x.before ≡ None → IsTraced found i x.at []
  goes_on : {i j first : ℕ} {rest : List ℕ} → (x : Found) → slice_get found i ≡ Some x → x.before ≡ Some j
      → IsTraced found j first rest → IsTraced found i first (rest ++ x.at ∷ [])

pub record Trace (found : List Found) (i : ℕ) : Type 0 where
  pub first : ℕ
  pub rest : List ℕ
  pub traced : IsTraced found i first rest

-- which is what is read back from it
pub record Read (found : List Found) (i : ℕ) (back : List ℕ) : Type 0 where
  pub trace : Trace found i
  pub is : reverse back ≡ trace.first ∷ trace.rest

nothing_read : {found : List Found} {o : Option ℕ} {back : List ℕ} → IsReadBack found o back → o ≡ None
    → back ≡ []
nothing_read IsReadBack.start e = refl
nothing_read (IsReadBack.step {i = i} x at rest) e = absurd (none-some i (sym e))

read_by : {found : List Found} {rest : List ℕ} (i : ℕ) (x : Found) → slice_get found i ≡ Some x
    → (o : Option ℕ) → x.before ≡ o → IsReadBack found x.before rest
    → ((j : ℕ) → x.before ≡ Some j → Read found j rest) → Read found i (x.at ∷ rest)
read_by {found = found} i x at None b more earlier =
    subst (λ back. Read found i (x.at ∷ back)) (sym (nothing_read more b)) (record {
      trace = record { first = x.at; rest = []; traced = IsTraced.opens x at b };
      is = refl;
    })
read_by {rest = rest} i x at (Some j) b more earlier =
    let d = earlier j b in record {
      trace = record {
        first = d.trace.first;
        rest = d.trace.rest ++ x.at ∷ [];
        traced = IsTraced.goes_on x at b d.trace.traced;
      };
      is = reverse-append (x.at ∷ []) rest ∙ ap (λ xs. xs ++ x.at ∷ []) d.is;
    }

pub read_trace : {found : List Found} {o : Option ℕ} {back : List ℕ} → IsReadBack found o back → (i : ℕ)
    → o ≡ Some i → Read found i back
read_trace IsReadBack.start i e = absurd (none-some i e)
read_trace {found = found} (IsReadBack.step {i = j} {rest = rest} x at more) i e =
    subst (λ k. Read found k (x.at ∷ rest)) (same_Some j i e)
    (read_by j x at x.before refl more (read_trace more))

-- a found node has one chain
module _ (found : List Found) where
  same_at : {i j : ℕ} {x y : Found} → i ≡ j → slice_get found i ≡ Some x → slice_get found j ≡ Some y
      → x ≡ y
  same_at {x = x} {y = y} e at there = same_Some x y (sym at ∙ ap (slice_get found) e ∙ there)

  pub same_trace : {i j f g : ℕ} {xs ys : List ℕ} → i ≡ j → IsTraced found i f xs → IsTraced found j g ys
      → (f ≡ g) × (xs ≡ ys)
  same_trace e (IsTraced.opens x at b) (IsTraced.opens y there c) =
      (ap (λ (z : Found). z.at) (same_at e at there), refl)
  same_trace e (IsTraced.opens x at b) (IsTraced.goes_on {j = k} y there c t) =
      absurd (none-some k (sym b ∙ ap (λ (z : Found). z.before) (same_at e at there) ∙ c))
  same_trace e (IsTraced.goes_on {j = k} x at b t) (IsTraced.opens y there c) =
      absurd (none-some k (sym c ∙ ap (λ (z : Found). z.before) (sym (same_at e at there)) ∙ b))
  same_trace e (IsTraced.goes_on {j = k} x at b t) (IsTraced.goes_on {j = l} y there c u) =
      let same = same_at e at there in
      let rest =
      same_trace (same_Some k l (sym b ∙ ap (λ (z : Found). z.before) same ∙ c)) t u in
      (rest.0, λ i. rest.1 i ++ (same i).at ∷ [])

module _ {Edge : ℕ → ℕ → Type 0} {Start : ℕ → Type 0} {First Less : ℕ → ℕ → Type 0} {found : List Found}
    {turn : ℕ} (b : IsBreadthFirst Edge Start First Less found turn) where
  reached : {j : ℕ} (i : ℕ) (x : Found) → slice_get found i ≡ Some x → x.before ≡ Some j
      → IsReached Edge found i x.at j
  reached i x at before =
      subst (λ o. MatchOption o (Start x.at) (IsReached Edge found i x.at)) before (b.steps i x at)

  -- each has one
  trace_by : (i : ℕ) (x : Found) → slice_get found i ≡ Some x → (o : Option ℕ) → x.before ≡ o
      → ((j : ℕ) → j < i → Trace found j) → Trace found i
  trace_by i x at None before earlier =
      record { first = x.at; rest = []; traced = IsTraced.opens x at before }
  trace_by i x at (Some j) before earlier =
      let t = earlier j (reached i x at before).earlier in record {
        first = t.first;
        rest = t.rest ++ x.at ∷ [];
        traced = IsTraced.goes_on x at before t.traced;
      }

  traces : (n i : ℕ) → i < n → i < length found → Trace found i
  traces zero i below l = absurd (omega arith)
  traces (suc n) i below l =
      let (x, at) = some_at found i l in
      trace_by i x at x.before refl (λ j lt. traces n j (omega arith) (omega arith))

  -- which edges lead along, from a start
  pub traced_walk : {i f : ℕ} {xs : List ℕ} → IsTraced found i f xs
      → (x : Found) × (slice_get found i ≡ Some x) × Start f × IsWalk Edge x.at f xs
  traced_walk (IsTraced.opens {i = i} x at before) = (
    x,
    at,
    subst (λ o. MatchOption o (Start x.at) (IsReached Edge found i x.at)) before (b.steps i x at),
    IsWalk.arrived,
  )
  traced_walk (IsTraced.goes_on {i = i} x at before t) =
      let (y, there, begins, walk) = traced_walk t in
      let r = reached i x at before in
      let same : r.before ≡ y = same_Some r.before y (sym r.is_before ∙ there) in
      (x, at, begins, walk_push walk (subst (λ (z : Found). Edge z.at x.at) same r.edge))

  -- what was found earlier has an earlier chain
  earlier : {i j f g : ℕ} {xs ys : List ℕ} → i < j → IsTraced found i f xs → IsTraced found j g ys
      → IsEarlier First Less f xs g ys
  earlier lt (IsTraced.opens {i = i} x at before) (IsTraced.opens {i = j} y there also) =
      inr (
        refl,
        inl (subst (λ o. MatchOption o (First x.at y.at) (λ _. Less x.at y.at)) before
            (b.siblings i j x y lt at there (before ∙ sym also))),
      )
  earlier lt (IsTraced.opens x at before) (IsTraced.goes_on {rest = ys} y there also u) =
      let l = length_push ys y.at in inl (omega arith)
  earlier lt (IsTraced.goes_on {i = i} x at before t) (IsTraced.opens {i = j} y there also) =
      let r = b.rising i j x y (omega arith) at there in
      let p = ap turn_of before in
      let q = ap turn_of also in absurd (omega arith)
  earlier lt (IsTraced.goes_on {i = i} {j = k} {rest = xs} x at before t)
      (IsTraced.goes_on {i = j} {j = l} {rest = ys} y there also u) =
      let r = b.rising i j x y (omega arith) at there in
      let p = ap turn_of before in
      let q = ap turn_of also in
      ⊎_elim (λ below. push_earlier First Less x.at y.at xs ys (earlier below t u))
      (λ above.
      let same : k ≡ l = omega arith in
      let rest = same_trace found same t u in
      push_last First Less x.at y.at xs ys rest.0 rest.1
      (subst (λ o. MatchOption o (First x.at y.at) (λ _. Less x.at y.at)) before
      (b.siblings i j x y lt at there (before ∙ ap Some same ∙ sym also))))
      (cases_lt k l)

  no_later : {i j f g : ℕ} {xs ys : List ℕ} → i ≤ j → IsTraced found i f xs → IsTraced found j g ys
      → IsNoLater First Less f xs g ys
  no_later {i = i} {j = j} le t u =
      ⊎_elim (λ lt. inl (earlier lt t u))
      (λ ge. inr (same_trace found (let e : i ≡ j = omega arith in e) t u))
      (cases_lt i j)

  module _ (first_on : (x y z : ℕ) → First x y → First y z → First x z)
      (less_on : (x y z : ℕ) → Less x y → Less y z → Less x z) where
    -- the chain of a found node comes no later than another chain
    record IsUpTo (i g : ℕ) (ys : List ℕ) : Type 0 where
      trace : Trace found i
      before : IsNoLater First Less trace.first trace.rest g ys

    up_to_at : {i j g : ℕ} {ys : List ℕ} → i ≤ j → i < length found → IsUpTo j g ys → IsUpTo i g ys
    up_to_at {i = i} {ys = ys} le l u =
        let t = traces (suc i) i (omega arith) l in record {
          trace = t;
          before = no_later_on First Less first_on less_on t.rest u.trace.rest ys
              (no_later le t.traced u.trace.traced)
              u.before;
        }

    -- a node to which a chain leads is found, with an earlier chain, or the walk has not yet come so far
    abbrev IsFoundBy : ℕ → ℕ → List ℕ → Type 0
    IsFoundBy y g ys =
        (i : ℕ) × (x : Found) × (slice_get found i ≡ Some x) × (x.at ≡ y) × IsUpTo i g ys

    abbrev HasCome : ℕ → ℕ → List ℕ → Type 0
    HasCome y g ys = IsFoundBy y g ys ⊎ ((turn < length found) × IsUpTo turn g ys)

    come_found : {i g y : ℕ} {ys : List ℕ} → IsUpTo i g ys → (w : IsWithin found y (i + 1)) → (o : Option ℕ)
        → w.one.before ≡ o → IsFoundBy y g (ys ++ y ∷ [])
    come_found {g = g} {y = y} {ys = ys} u w None before =
        let l = length_push ys y in (
          w.index,
          w.one,
          w.is_one,
          w.at_is,
          record {
            trace = record { first = w.one.at; rest = []; traced = IsTraced.opens w.one w.is_one before };
            before = inl (inl (omega arith));
          },
        )
    come_found {i = i} {g = g} {y = y} {ys = ys} u w (Some j) before =
        let soon = w.soon in
        let at = ap turn_of before in
        let low = (reached w.index w.one w.is_one before).earlier in
        let inside = slice_get_within found w.index w.one w.is_one in
        let v = up_to_at {i = j} (omega arith) (omega arith) u in (
          w.index,
          w.one,
          w.is_one,
          w.at_is,
          record {
            trace = record {
              first = v.trace.first;
              rest = v.trace.rest ++ w.one.at ∷ [];
              traced = IsTraced.goes_on w.one w.is_one before v.trace.traced;
            };
            before =
                subst (λ z. IsNoLater First Less v.trace.first (v.trace.rest ++ w.one.at ∷ []) g
                (ys ++ z ∷ [])) w.at_is (push_no_later First Less w.one.at v.trace.rest ys v.before);
          },
        )

    come_late : {g : ℕ} {ys : List ℕ} (y : ℕ) → IsUpTo turn g ys → IsUpTo turn g (ys ++ y ∷ [])
    come_late {ys = ys} y u =
        record { trace = u.trace; before = longer First Less y u.trace.rest ys u.before }

    come_step : {x y g : ℕ} {ys : List ℕ} → Edge x y → HasCome x g ys → HasCome y g (ys ++ y ∷ [])
    come_step {y = y} {g = g} edge =
        ⊎_elim
        (λ c.
        let l = slice_get_within found c.0 c.1 c.2 in
        ⊎_elim
        (λ lt.
        let w = b.followed c.0 c.1 y lt c.2 (subst (λ z. Edge z y) (sym c.3) edge) in
        inl (come_found c.4 w w.one.before refl))
        (λ ge. inr (omega arith, come_late y (up_to_at ge (omega arith) c.4)))
        (cases_lt c.0 turn))
        (λ r. inr (r.0, come_late y r.1))

    come_walk : {goal x g : ℕ} {rest : List ℕ} (ys : List ℕ) → HasCome x g ys → IsWalk Edge goal x rest
        → HasCome goal g (ys ++ rest)
    come_walk {goal = goal} {g = g} ys c IsWalk.arrived =
        subst (λ zs. HasCome goal g zs) (sym (append-nil ys)) c
    come_walk {goal = goal} {g = g} ys c (IsWalk.onward {y = y} {rest = rest} edge walk) =
        subst (λ zs. HasCome goal g zs) (append_assoc ys (y ∷ []) rest)
        (come_walk (ys ++ y ∷ []) (come_step edge c) walk)

    come : {goal g : ℕ} {ys : List ℕ} → Start g → IsWalk Edge goal g ys → HasCome goal g ys
    come {g = g} start walk =
        let w = b.started g start in
        come_walk [] (inl (w.index, w.one, w.is_one, w.at_is, begun w w.one.before refl)) walk
      where
        begun : (w : IsWithin found g 0) → (o : Option ℕ) → w.one.before ≡ o → IsUpTo w.index g []
        begun w None before = record {
          trace = record { first = w.one.at; rest = []; traced = IsTraced.opens w.one w.is_one before };
          before = inr (w.at_is, refl);
        }
        begun w (Some j) before =
            let soon = w.soon in let at = ap turn_of before in absurd (omega arith)

    -- the goal as it was found first, where the walk came as far
    pub least_found : {goal last f : ℕ} {xs : List ℕ} (one : Found) → slice_get found last ≡ Some one
        → one.at ≡ goal → ((i : ℕ) (x : Found) → slice_get found i ≡ Some x → x.at ≡ goal → last ≤ i)
        → last ≤ turn → IsTraced found last f xs → IsLeast Edge Start First Less goal f xs
    least_found {goal = goal} {last = last} {f = f} {xs = xs} one is at only le t =
        let (x, there, begins, walks) = traced_walk t in
        let same : x.at ≡ goal = ap (λ (z : Found). z.at) (same_Some x one (sym there ∙ is)) ∙ at in
        let inside = slice_get_within found last one is in record {
          start = begins;
          walk = subst (λ z. IsWalk Edge z f xs) same walks;
          least = λ g ys start walk.
              let u = up_to g ys (come start walk) inside in
              let s = same_trace found refl t u.trace.traced in
              subst (λ z. IsNoLater First Less z xs g ys) (sym s.0)
              (subst (λ zs. IsNoLater First Less u.trace.first zs g ys) (sym s.1) u.before);
        }
      where
        up_to : (g : ℕ) (ys : List ℕ) → HasCome goal g ys → last < length found → IsUpTo last g ys
        up_to g ys c l =
            ⊎_elim (λ d. up_to_at (only d.0 d.1 d.2 d.3) l d.4) (λ r. up_to_at le l r.1) c

    -- where all are visited and the goal is none of them, no chain leads to it
    pub never_found : {goal g : ℕ} {ys : List ℕ} → turn ≡ length found
        → ((i : ℕ) (x : Found) → slice_get found i ≡ Some x → x.at ≡ goal → ⊥) → Start g
        → IsWalk Edge goal g ys → ⊥
    never_found all none start walk =
        ⊎_elim (λ c. none c.0 c.1 c.2 c.3) (λ r. let l = r.0 in omega arith) (come start walk)
