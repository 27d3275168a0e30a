-- One pass of a rescan: what it promotes, and when there is nothing to promote.
use Rattle.hd_dep.proofs.Basics.{Addr, Bool, DueRows, Ends, Gained, Gives, Grows, HasParts, IsEdge, IsFollowed, IsOn, IsSome, IsSpread, IsSpreadRow, IsTable, IsUnderway, IsYoungField, Leads, List, MatchBool, Objects, Slot, Some, Spreads, Table, and_parts, ap, begins, chain_of, clumps_to_come, due_clumps, due_slots, false, get, goes_on, inl, inr, length, live_at, live_row, not, not-true, refl, row_at, slots_to_come, subst, sym, true, ℕ, ⊎_elim, ◌&&◌, ◌+◌, ◌||◌, ◌∙◌, ◌≡◌}
use Rattle.hd_model.proofs.EdgeChains.{one_edge, leads_on}
use Rattle.hd_dep.proofs.DueHandles.{attaches_by, OfPast, none_past, past_more, past_all}
use Rattle.hd_model.specs.declared.data.Kind.TheVariants as kind

module _ {N : Type 0} (E : N → N → Type 0) where
  pub spreads_none : (p : N → Bool) → Spreads E p p
  spreads_none p = record { keeps = λ x h. h; only = λ x h. (x, (h, Leads.here)) }

  pub spreads_on : (p q r : N → Bool) → Spreads E p q → Spreads E q r → Spreads E p r
  spreads_on p q r a b = record {
    keeps = λ x h. b.keeps x (a.keeps x h);
    only = λ x h.
        let (y, rest) = b.only x h in
        let (z, first) = a.only y rest.0 in
        (z, (first.0, leads_on E first.1 rest.1));
  }

-- chains of some edges are chains of others, and sets that spread along them spread along the others
module _ {N : Type 0} (E F : N → N → Type 0) (turn : (x y : N) → E x y → F x y) where
  leads_like : {x y : N} → Leads E x y → Leads F x y
  leads_like Leads.here = Leads.here
  leads_like (Leads.more {y = y} {z = z} chain e) = Leads.more (leads_like chain) (turn y z e)

  pub spreads_like : (p q : N → Bool) → Spreads E p q → Spreads F p q
  spreads_like p q s = record {
    keeps = s.keeps;
    only = λ x h. let (r, rest) = s.only x h in (r, (rest.0, leads_like rest.1));
  }

  -- a set that grows from what edges of F lead to from a member spreads along F
  pub grows_spread : (Start : N → Type 0) (p q : N → Bool) (from : N) → p from ≡ true
      → ((y : N) → Start y → F from y) → Grows E Start p q → Spreads F p q
  grows_spread Start p q from h step grows = record {
    keeps = grows.keeps;
    only = λ z k. ⊎_elim (λ earlier. (z, (earlier, Leads.here)))
        (λ (w : (r : N) × (Start r × Leads E r z)). (
          from,
          (h, leads_on F (one_edge F (step w.0 w.1.0)) (leads_like w.1.1)),
        ))
        (grows.only z k);
  }

-- what is promoted for its target was not before
pub gained_by : (E : Addr → Addr → Type 0) (x y : Addr) (p q : Addr → Bool) → (p x && not (p y)) ≡ true
    → Grows E (λ z. z ≡ y) p q → Gained p q
gained_by E x y p q out grows =
    record { member = y; new = grows.joins y refl; old = not-true (p y) (and_parts (p x) (not (p y)) out).1 }

module _ (o : Objects Addr) (n : ℕ) (t : Table) where
  pub young_edge : (x y : Addr) → IsYoungField o n x y → IsEdge o (row_at t) x y
  young_edge x y e = inl e.field

  -- the secondary of a live handle is promoted, whose target is
  pub promoted_next : (slot : ℕ) (x y : Addr) (p q : Addr → Bool) → IsSome (get t.rows slot)
      → (live_at t slot).kind ≡ kind.Dependent → HasParts (live_at t slot) x y → p x ≡ true
      → Grows (IsYoungField o n) (λ z. z ≡ y) p q → Spreads (IsEdge o (row_at t)) p q
  promoted_next slot x y p q live dependent parts promoted =
      grows_spread (IsYoungField o n) (IsEdge o (row_at t)) young_edge (λ z. z ≡ y) p q x promoted
      (λ z e. inr (record {
        slot = slot;
        handle = live_at t slot;
        is_stored = live_row t slot live;
        attaches = attaches_by (live_at t slot) dependent;
        target = parts.target;
        secondary = parts.secondary ∙ ap (λ a. Some a) (sym e);
      }))

  module _ (ages : List ℕ) (p0 : Addr → Bool) where
    -- nothing was promoted, and the handles that were visited needed nothing
    pub record IsQuiet (w : DueRows) (p : Addr → Bool) : Type 0 where
      pub same : p ≡ p0
      pub followed : OfPast t ages n w (λ h. IsFollowed h p0)

    -- along a pass
    pub record IsSpreading (w : DueRows) (before steps : ℕ) (p : Addr → Bool) (more : Bool) : Type 0 where
      pub under : IsUnderway t ages n kind.Dependent t w (before, steps)
      pub spreads : Spreads (IsEdge o (row_at t)) p0 p
      pub found : MatchBool more (Gained p0 p) (IsQuiet w p)

module _ {o : Objects Addr} {n : ℕ} {t : Table} {ages : List ℕ} {p0 : Addr → Bool} where
  pub spread_start : IsTable t → {w : DueRows} {before : ℕ} → IsOn t w
      → slots_to_come t ages w ≡ due_slots t ages n kind.Dependent
      → clumps_to_come t ages w ≡ due_clumps ages n (chain_of t kind.Dependent)
      → IsSpreading o n t ages p0 w before before p0 false
  spread_start is {w} {before} on slots clumps = record {
    under = begins t ages n kind.Dependent is w slots before on clumps;
    spreads = spreads_none (IsEdge o (row_at t)) p0;
    found = record { same = refl; followed = none_past t ages n w (λ h. IsFollowed h p0) is slots };
  }

  module _ {old new : DueRows} {slot : Slot} {before steps : ℕ} {p q : Addr → Bool} {more : Bool}
      (s : IsSpreading o n t ages p0 old before steps p more) (gives : Gives t ages old new slot)
      (spreads : Spreads (IsEdge o (row_at t)) p q) where
    found : (m r : Bool) → MatchBool m (Gained p0 p) (IsQuiet o n t ages p0 old p)
        → MatchBool r (Gained p q) (IsSpreadRow (live_at t slot.0) p q)
        → MatchBool (m || r) (Gained p0 q) (IsQuiet o n t ages p0 new q)
    found true r a b = record { member = a.member; new = spreads.keeps a.member a.new; old = a.old }
    found false true a b = subst (λ f. Gained f q) a.same b
    found false false a b = record {
      same = b.same ∙ a.same;
      followed = past_more s.under a.followed gives (λ h. IsFollowed h p0) (λ h f. f)
          (subst (IsFollowed (live_at t slot.0)) a.same b.followed);
    }

    pub spread_row : {after : ℕ} (row_more : Bool) → IsOn t new
        → after + length (clumps_to_come t ages new) ≡ steps + length (clumps_to_come t ages old)
        → MatchBool row_more (Gained p q) (IsSpreadRow (live_at t slot.0) p q)
        → IsSpreading o n t ages p0 new before after q (more || row_more)
    spread_row row_more on counted row = record {
      under = goes_on s.under gives on counted;
      spreads = spreads_on (IsEdge o (row_at t)) p0 p q s.spreads spreads;
      found = found more row_more s.found row;
    }

  pub spread_end : {old new : DueRows} {before steps : ℕ} {p : Addr → Bool} {more : Bool}
      → IsSpreading o n t ages p0 old before steps p more → Ends t ages old new
      → MatchBool more (Gained p0 p) (IsSpread (row_at t) ages n p0 p)
  spread_end {old} {new} {before} {steps} {p} {more} s ends = by more s.found
    where
      by : (m : Bool) → MatchBool m (Gained p0 p) (IsQuiet o n t ages p0 old p)
          → MatchBool m (Gained p0 p) (IsSpread (row_at t) ages n p0 p)
      by true a = a
      by false a = record { same = a.same; followed = past_all s.under a.followed ends }
