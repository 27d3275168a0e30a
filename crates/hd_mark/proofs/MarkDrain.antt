-- What is true while a stack is drained, and what it comes to.
use Rattle.hd_mark.proofs.Basics.{Addr, Basis, Bool, Contains, Contains-append_cases, Contains-append_left, Contains-append_right, Contains-push_cases, Gains, GoesOn, HasClosedFields, HasNoneYet, Heap, IsCondemned, IsField, IsLog, IsNextDone, IsSettledMarks, IsTraced, IsYoungField, List, Marked, MarksOf, None, Option, Some, [], advanced, ap, append-nil, append_assoc, arith, both_ways, cond_both, contains, contains-empty, drop, empty, false, fields_at, first_in, first_marks, generation_in, if◌then◌else◌, inl, inr, insert, is_object, is_older, is_some, later_in, le-ltb, length, log_of, lt-ltb, ltb-true, marked_also, member_cases, nat_cmp, not_in_none, object_at, objects_of, or_cases, or_left, or_right, pairs_none, pinned_also, pinned_in, promoted_in, pushed, refl, scanned, subst, sym, take, take-append-drop, true, ℕ, ⊎_elim, ◌++◌, ◌<◌, ◌||◌, ◌∙◌, ◌∷◌, ◌≡◌, ◌≢◌, ◌⊎◌}
use Rattle.std.proofs.Math.Seq.{take-append_seam, take-length}
use Rattle.hd_model.specs.{State.Object, Leads.Leads, Leads.Grows}
use Rattle.hd_mark.proofs.MarkBits.{insert_gains}
use Rattle.hd_mark.proofs.MarkPush.{Pushes, work, scan_pushes, promoted_before, promoted_since, fields_promoted}

-- what has a generation above 0 is an object
old_object : (b : Basis) (x : Addr) → is_older b x ≡ true → is_object (objects_of b) x ≡ true
old_object b x e = by (objects_of b x) (ltb-true _ _ e)
  where
    by : (o : Option (Object Addr)) → b.condemned < generation_in o → is_some o ≡ true
    by None less = absurd (omega arith)
    by (Some o) less = refl

-- a promoted object that is condemned is marked
marked_young : (m : MarksOf) (x : Addr) → promoted_in m x ≡ true
    → IsCondemned (objects_of m.basis) m.basis.condemned x → contains m.marks x.0 ≡ true
marked_young m x h condemned =
    ⊎_elim (λ older. absurd (both_ways _ (le-ltb _ _ condemned.young) older)) (λ marked. marked)
    (or_cases (is_older m.basis x) _ h)

-- to count the next object as scanned leaves the log, and its fields are done
same_log : (m : MarksOf) → log_of (advanced m) ≡ log_of m
same_log m =
    append_assoc m.scanned (take 1 m.unscanned) (drop 1 m.unscanned)
    ∙ ap (λ xs. m.scanned ++ xs) (take-append-drop 1 m.unscanned)

pub advance_traced : (m : MarksOf) → IsNextDone m → IsTraced m → IsTraced (advanced m)
advance_traced m next t = record {
  fields = t.fields;
  marked = t.marked;
  log = subst (IsLog m.marks) (sym (same_log m)) t.log;
  scanned = λ x h. ⊎_elim
      (λ on. ⊎_elim
      (λ (e : next.next ≡ x). inr (subst (λ z. (y : Addr) → IsField (objects_of m.basis) z y
      → promoted_in m y ≡ true) e next.done))
      (λ later. inl (subst (λ xs. Contains xs x) (ap (drop 1) (sym next.unscanned_is)) later))
      (member_cases next.next next.rest x (subst (λ xs. Contains xs x) next.unscanned_is on)))
      (λ (done : (y : Addr) → IsField (objects_of m.basis) x y → promoted_in m y ≡ true). inr done)
      (t.scanned x h);
}

-- ---- a drain

-- an edge of a collection: a field of a condemned object
abbrev YoungEdge : MarksOf → Addr → Addr → Type 0
YoungEdge m = IsYoungField (objects_of m.basis) m.basis.condemned

-- what is promoted in n, with what is to be scanned in m
abbrev GrowsTo : MarksOf → MarksOf → Type 0
GrowsTo m n = Grows (YoungEdge m) (λ x. Contains m.unscanned x) (promoted_in m) (promoted_in n)

-- edges lead to x from what is to be scanned
abbrev IsLed : MarksOf → Addr → Type 0
IsLed m x = (r : Addr) × (Contains m.unscanned r × Leads (YoungEdge m) r x)

-- how far a drain has come from m
pub record IsDraining (m n : MarksOf) : Type 0 where
  pub basis : n.basis ≡ m.basis
  pub pins : n.pins ≡ m.pins
  pub keeps : (x : Addr) → promoted_in m x ≡ true → promoted_in n x ≡ true
  pub only : (x : Addr) → promoted_in n x ≡ true → (promoted_in m x ≡ true) ⊎ IsLed m x
  pub led : (x : Addr) → Contains n.unscanned x → IsLed m x
  pub goes_on : GoesOn m n

pub draining_start : (m : MarksOf) → IsDraining m m
draining_start m = record {
  basis = refl;
  pins = refl;
  keeps = λ x h. h;
  only = λ x h. inl h;
  led = λ x h. (x, (h, Leads.here));
  goes_on = ([], sym (append-nil (log_of m)));
}

-- the next object is scanned
module _ {m n : MarksOf} (d : IsDraining m n) (t : IsTraced n) {x : Addr} {rest : List Addr}
    (top : n.unscanned ≡ x ∷ rest) where
  abbrev fields : List (Option Addr)
  fields = fields_at (objects_of n.basis) x

  abbrev after : MarksOf
  after = scanned n fields

  on_top : Contains n.unscanned x
  on_top = subst (λ (xs : List Addr). Contains xs x) (sym top) (first_in x rest)

  pub next_condemned : IsCondemned (objects_of n.basis) n.basis.condemned x
  next_condemned = t.marked x (t.log.each x (Contains-append_right n.scanned n.unscanned x on_top))

  scan : Pushes (IsField (objects_of n.basis) x) n after
  scan = scan_pushes fields n (λ y h. (h, t.fields x y h))

  after_top : after.unscanned ≡ x ∷ (rest ++ scan.more)
  after_top = scan.unscanned ∙ ap (λ xs. xs ++ scan.more) top

  pub next_done : IsNextDone after
  next_done = record {
    next = x;
    rest = rest ++ scan.more;
    unscanned_is = after_top;
    done = λ y f. fields_promoted fields n y (subst (λ (b : Basis). IsField (objects_of b) x y) scan.basis f);
  }

  -- what the object references is reached
  named : (y : Addr) → IsField (objects_of n.basis) x y → IsLed m y
  named y f =
      let (r, chain) = d.led x on_top in
      let edge : YoungEdge m x y =
      subst (λ (b : Basis). IsYoungField (objects_of b) b.condemned x y) d.basis
      (record { condemned = next_condemned; field = f }) in
      (r, (chain.0, Leads.more chain.1 edge))

  pub draining_on : IsDraining m (advanced after)
  draining_on = record {
    basis = scan.basis ∙ d.basis;
    pins = scan.pins ∙ d.pins;
    keeps = λ z h. promoted_before fields n z (d.keeps z h);
    only = λ z h. ⊎_elim (d.only z) (λ f. inr (named z f)) (promoted_since fields n z h);
    led = λ z h. ⊎_elim (λ old. d.led z (subst (λ xs. Contains xs z) (sym top) (later_in x rest z old)))
        (λ new. named z (scan.each z new))
        (Contains-append_cases rest scan.more z (subst (λ xs. Contains xs z) (ap (drop 1) after_top) h));
    goes_on = (
      d.goes_on.0 ++ scan.more,
      same_log after ∙ (λ i. scan.scanned i ++ scan.unscanned i)
          ∙ sym (append_assoc n.scanned n.unscanned scan.more)
          ∙ ap (λ (xs : List Addr). xs ++ scan.more) d.goes_on.1
          ∙ append_assoc (log_of m) d.goes_on.0 scan.more,
    );
  }

  -- and less is left to do
  pub work_falls : work after.basis.heap after.marks (drop 1 after.unscanned)
      < work n.basis.heap n.marks n.unscanned
  unfolding work
  work_falls =
      let less = scan.work in
      let long = ap length after_top in
      let left = ap (λ xs. length (drop 1 xs)) after_top in
      subst (λ (b : Basis). work b.heap after.marks (drop 1 after.unscanned)
      < work n.basis.heap n.marks n.unscanned) (sym scan.basis) (omega arith)

-- with nothing left to scan, what is promoted is settled
pub settled_empty : {m : MarksOf} → IsTraced m → m.unscanned ≡ [] → IsSettledMarks m
settled_empty {m} t empty = record {
  empty = empty;
  settled = record {
    objects = λ x h. ⊎_elim (old_object m.basis x) (λ marked. (t.marked x marked).object)
        (or_cases (is_older m.basis x) _ h);
    older = λ x less. or_left _ _ (lt-ltb _ _ less);
    closed = λ x y h f. ⊎_elim
        (λ on. absurd (not_in_none x (subst (λ (xs : List Addr). Contains xs x) empty on)))
        (λ (done : (z : Addr) → IsField (objects_of m.basis) x z → promoted_in m z ≡ true). done y f.field)
        (t.scanned x (marked_young m x h f.condemned));
  };
  log = record {
    apart = t.log.apart;
    each = λ x h. (t.marked x (t.log.each x h), or_right (is_older m.basis x) _ (t.log.each x h));
    all = λ x condemned h. t.log.all x (marked_young m x h condemned);
  };
}

-- what a drain leaves. What was to be scanned at first is promoted, since it is in the log.
pub record Drained (m n : MarksOf) : Type 0 where
  pub settled : IsSettledMarks n
  pub basis : n.basis ≡ m.basis
  pub pins : n.pins ≡ m.pins
  pub grows : GrowsTo m n
  pub log : GoesOn m n

pub drained : {m n : MarksOf} → IsDraining m n → IsTraced n → n.unscanned ≡ [] → Drained m n
drained {m} {n} d t empty = record {
  settled = settled_empty t empty;
  basis = d.basis;
  pins = d.pins;
  grows = record {
    keeps = d.keeps;
    joins = λ x h. or_right (is_older n.basis x) _ (t.log.each x (subst (λ xs. Contains xs x)
        (sym d.goes_on.1)
        (Contains-append_left (log_of m) d.goes_on.0 x (Contains-append_right m.scanned m.unscanned x h))));
    only = d.only;
  };
  log = d.goes_on;
}

-- an object without fields is all that is left to scan: it is done, and to pass it is to drain
module _ {m : MarksOf} (t : IsTraced m) {at : Addr} (one : m.unscanned ≡ at ∷ [])
    (bare : fields_at (objects_of m.basis) at ≡ []) where
  pub bare_done : IsNextDone m
  bare_done = subst (λ fs. IsNextDone (scanned m fs)) bare (next_done (draining_start m) t one)

  pub bare_drained : {n : MarksOf} → n ≡ advanced m → IsTraced n → Drained m n
  bare_drained is now =
      drained (subst (IsDraining m) (sym is) (subst (λ fs. IsDraining m (advanced (scanned m fs))) bare
      (draining_on (draining_start m) t one))) now (ap (λ (k : MarksOf). k.unscanned) is ∙ ap (drop 1) one)

-- ---- the calls of a marker

-- nothing is marked at first
pub first_traced : (h : Heap) (n : ℕ) → HasClosedFields (object_at h) → IsTraced (first_marks h n)
first_traced h n closed =
    let none = λ (x : Addr). both_ways _ (contains-empty nat_cmp x.0) in
    record {
      fields = closed;
      marked = λ x h. absurd (none x h);
      log = record {
        apart = pairs_none (λ x y. x ≢ y);
        each = λ x h. absurd (not_in_none x h);
        all = λ x h. absurd (none x h);
      };
      scanned = λ x h. absurd (none x h);
    }

pub first_none : (h : Heap) (n : ℕ) → HasNoneYet (first_marks h n)
first_none h n = λ x condemned.
    let none : promoted_in (first_marks h n) x ≡ false =
    ap (λ t. t || contains (empty {R = nat_cmp}) x.0) (le-ltb _ _ condemned.young)
    ∙ contains-empty nat_cmp x.0 in
    (none, none)

-- a pin
module _ (m : MarksOf) (a : Addr) where
  abbrev pinned_now : MarksOf
  pinned_now = record m { pins = insert m.pins a.0 }

  pub pin_traced : IsTraced m → IsTraced (pinned_also m a)
  pin_traced t =
      cond_both (is_older m.basis a) m pinned_now IsTraced (λ e. t)
      (λ e. record { fields = t.fields; marked = t.marked; log = t.log; scanned = t.scanned })

  pub pin_settled : IsSettledMarks m → IsSettledMarks (pinned_also m a)
  pin_settled s =
      cond_both (is_older m.basis a) m pinned_now IsSettledMarks (λ e. s)
      (λ e. record { empty = s.empty; settled = s.settled; log = s.log })

  pub pin_gains : Gains a (pinned_in m) (pinned_in (pinned_also m a))
  pin_gains =
      cond_both (is_older m.basis a) m pinned_now (λ n. Gains a (pinned_in m) (pinned_in n))
      (λ e. record { keeps = λ x h. h; joins = or_left _ _ e; only = λ x h. inl h })
      (λ e. insert_gains (is_older m.basis) m.pins a)

-- for `grind`: what a pin does to settled marks
pub ruleset pins_settled = (pin_settled, pin_gains)

-- a push
module _ {m j : MarksOf} (a : Addr) (is : j ≡ pushed m a) (s : IsSettledMarks m) where
  -- of what is promoted already
  pub marked_before : promoted_in m a ≡ true → Marked a m j
  marked_before before =
      subst (Marked a m) (sym (is ∙ ap (λ (t : Bool). if t then m else marked_also m a) before)) (record {
        settled = s;
        basis = refl;
        pinned = refl;
        grows = record {
          keeps = λ x h. h;
          joins = λ x same. ap (promoted_in m) same ∙ before;
          only = λ x h. inl h;
        };
        log = take-length (log_of m);
      })

  -- of what is not
  module _ (fresh : promoted_in m a ≡ false) where
    is_marked : j ≡ marked_also m a
    is_marked = is ∙ ap (λ (t : Bool). if t then m else marked_also m a) fresh

    -- leaves that to scan
    pub one_left : j.unscanned ≡ a ∷ []
    one_left = ap (λ (k : MarksOf). k.unscanned) is_marked ∙ ap (λ xs. xs ++ a ∷ []) s.empty

    -- and is drained then
    pub marked_since : {k : MarksOf} → Drained j k → Marked a m k
    marked_since {k} drained =
        let d : Drained (marked_also m a) k = subst (λ (i : MarksOf). Drained i k) is_marked drained in
        let gains = insert_gains (is_older m.basis) m.marks a in
        record {
          settled = d.settled;
          basis = d.basis;
          grows = record {
            keeps = λ x h. d.grows.keeps x (gains.keeps x h);
            joins = λ x same. d.grows.keeps x (ap (promoted_in (marked_also m a)) same ∙ gains.joins);
            only = λ x h. ⊎_elim
                (λ before. ⊎_elim (λ was. inl was) (λ (same : x ≡ a). inr (x, (same, Leads.here)))
                (gains.only x before))
                (λ (w : (r : Addr) × (Contains (m.unscanned ++ a ∷ []) r × Leads (YoungEdge m) r x)).
                ⊎_elim (λ before. absurd (not_in_none w.0
                (subst (λ (xs : List Addr). Contains xs w.0) s.empty before)))
                (λ (same : a ≡ w.0). inr (w.0, (sym same, w.1.1)))
                (Contains-push_cases m.unscanned a w.0 w.1.0)) (d.grows.only x h);
          };
          pinned = λ i x. is_older (d.basis i) x || contains (d.pins i) x.0;
          log =
              ap (take (length (log_of m))) (d.log.1
              ∙ ap (λ (xs : List Addr). xs ++ d.log.0) (sym (append_assoc m.scanned m.unscanned (a ∷ [])))
              ∙ append_assoc (log_of m) (a ∷ []) d.log.0) ∙ take-append_seam (log_of m) (a ∷ d.log.0);
        }
