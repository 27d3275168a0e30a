-- What a collection marks first are the roots, and what is marked once edges are followed is reached and
-- kept, beside objects of generations above n.
use Rattle.hd_model.proofs.Basics.{Bool, Contains, Contains-append_cases, Contains-append_left, Contains-append_right, Decides, IsClosed, IsKept, IsReached, IsRoot, IsToBeFinalized, Leads, List, None, Object, Option, Some, State, [], ap, cond, cond-true, entries, false, false≢true, get, get-empty, held, inl, inr, is_some, joined, map, map-append, named, nat_cmp, nat_le, nat_lt, nat_tests, none-some, not, older, or_cases, or_left, or_right, queued, refl, same_Some, scene_of, subst, sym, true, ℕ, ⊎_elim, ◌&&◌, ◌++◌, ◌<◌, ◌∙◌, ◌∷◌, ◌≡◌, ◌≤◌, ◌⊎◌, ◌||◌, arith}
use Rattle.std.specs.Borrow.{Bor}
use Rattle.std.specs.Option.{option_map_or}
use Rattle.hd_model.specs.declared.data.Id.{Id}
use Rattle.hd_model.specs.declared.limits.TheConstants.{OLDEST}
use Rattle.hd_model.proofs.EdgeChains.{leads_on, one_edge}
use Rattle.hd_model.proofs.MapEntries.{entry_of, get_entry}
use Rattle.hd_model.proofs.MarkReach.{decides_kept, decides_reached}
use Rattle.hd_model.proofs.Members.{joined_from, joined_in, mapped_from, mapped_in, not_in_none}
use Rattle.hd_model.specs.Anchors.{EdgeOf, by_handle, in_queue, in_static}
use Rattle.hd_model.specs.Scene.{fields_in}
use Rattle.hd_maps.specs.LentValues.{lent_entry}
use Rattle.hd_plain.specs.Attaching.{ListsAttached, secondaries}
use Rattle.hd_plain.specs.Collecting.{id_of}
use Rattle.hd_plain.specs.Inside.{Closes, Gains, HasGenerations, IsAnchorId, IsFromOlder, IsYoungAnchor, IsYoungRoot, YoungEdge, edges_from, is_above, is_marked, is_older, is_woken, no_marks, resurrected_at, wakes, with_rows, with_targets, young, young_at}
use Rattle.hd_plain.specs.Marked.{Marked}
use Rattle.hd_plain.specs.declared.marks.Attached.{Attached}
use Rattle.hd_plain.proofs.AttachedLists.{edge_from, edge_to}
use Rattle.hd_plain.proofs.CollectedState.{woken_is}
use Rattle.hd_plain.proofs.MarkedSets.{IsAmong, gains_like, gains_none, gains_targets, gains_then, rows_joined}
use Rattle.hd_plain.proofs.YoungObjects.{IsYoungOf, ListsYoung, all_young, gains_young, older_generation, older_or, young_from, young_to}

pub nothing_marked : (x : Id) → is_marked no_marks x ≡ true → ⊥
nothing_marked x h = false≢true (sym (ap is_some (get-empty nat_cmp x.0)) ∙ h)

-- what an option has where a test passes
pub target_from : {A : Type 0} (b : Bool) (o : Option A) (x : A) → cond b o None ≡ Some x → (b ≡ true) ×
    (o ≡ Some x)
target_from true o x e = (refl, e)
target_from false o x e = absurd (none-some x e)

joined_map : {A B : Type 0} (f : A → B) (rows : List (List A)) → joined (map (map f) rows) ≡ map f (joined rows)
joined_map f [] = refl
joined_map f (row ∷ rows) =
    ap (λ xs. map f row ++ xs) (joined_map f rows) ∙ sym (map-append f row (joined rows))

-- a generation above n is not one up to n
above_false : (n g : ℕ) → nat_lt n g ≡ true → nat_le g n ≡ false
above_false n g h = grind (arith, nat_tests, h)

module _ (n : ℕ) (s : State) where
  is_root : (y : ℕ) → IsAnchorId s y → IsRoot (scene_of s) n (id_of y)
  is_root y (in_static h) = named (Contains-append_right (joined s.registers) s.statics (Some (id_of y)) h)
  is_root y (in_queue h) = queued h
  is_root y (by_handle h) = held h

  abbrev Registers : ℕ → Type 0
  Registers = IsYoungOf n s.objects (joined s.registers)

  root_from : (y : ℕ) → IsRoot (scene_of s) n (id_of y) → is_older n s.objects (id_of y) ≡ false
      → (Registers y ⊎ IsYoungAnchor n s y) ⊎ IsFromOlder n s y
  root_from y (named h) is =
      inl (⊎_elim (λ row. inl (row, is)) (λ static. inr (in_static static, is))
      (Contains-append_cases (joined s.registers) s.statics (Some (id_of y)) h))
  root_from y (queued h) is = inl (inr (in_queue h, is))
  root_from y (held h) is = inl (inr (by_handle h, is))
  root_from y (older l) is =
      absurd (false≢true (sym is ∙ (older_generation n s.objects (id_of y)).1 l))

  pub roots_marked : {a b c d : Marked} → b ≡ with_rows a (map (map (young n s.objects)) s.registers)
      → Gains (IsYoungAnchor n s) b c → Gains (IsFromOlder n s) c d → Gains (IsYoungRoot n s) a d
  roots_marked {a} {b} {c} {d} rows anchors from =
      gains_like (λ y. (Registers y ⊎ IsYoungAnchor n s y) ⊎ IsFromOlder n s y) (IsYoungRoot n s) a d
      (λ y h. ⊎_elim
      (λ k. ⊎_elim
      (λ r. inl (named (Contains-append_left (joined s.registers) s.statics (Some (id_of y)) r.0), r.1))
      (λ r. inl (is_root y r.0, r.1)) k)
      (λ k. inr k) h)
      (λ y h. ⊎_elim (λ k. root_from y k.0 k.1) (λ k. inr k) h)
      (gains_then (λ y. Registers y ⊎ IsYoungAnchor n s y) (IsFromOlder n s) a c d
      (gains_then Registers (IsYoungAnchor n s) a b c
      (subst (Gains Registers a)
      (sym (rows ∙ rows_joined a (map (map (young n s.objects)) s.registers)
      ∙ ap (with_targets a) (joined_map (young n s.objects) s.registers)))
      (gains_young n s.objects a (joined s.registers))) anchors) from)

  -- what edges from objects of generations above n lead to
  module _ (w : HasGenerations s.objects) (l : Attached) (lists : ListsAttached s l)
      (listed : List (ℕ × Bor (Object Id))) (are : map lent_entry listed ≡ entries s.objects) where
    abbrev fields_of : Object Id → List (Option Id)
    fields_of o = map (young n s.objects) o.fields

    abbrev others_of : ℕ → List (Option Id)
    others_of k = map (young_at n s.objects) (secondaries l k)

    stored_at : (e : ℕ × Bor (Object Id)) → Contains listed e → get s.objects e.0 ≡ Some e.1.now
    stored_at e c =
        get_entry s.objects e.0 e.1.now
        (subst (λ es. Contains es (lent_entry e)) are (mapped_in lent_entry listed e c))

    edge_at : (e : ℕ × Bor (Object Id)) (y : ℕ) → Contains listed e
        → Contains e.1.now.fields (Some (id_of y)) ⊎ Contains (secondaries l e.0) y
        → EdgeOf s (id_of e.0) (id_of y)
    edge_at e y c k =
        edge_from s l lists (id_of e.0) (id_of y)
        (⊎_elim
        (λ f. inl (subst (λ o. Contains (fields_in o) (Some (id_of y))) (sym (stored_at e c)) f))
        (λ o. inr o) k)

    row_from : (e : ℕ × Bor (Object Id)) (y : ℕ) → Contains listed e
        → Contains (edges_from n s.objects l e) (Some (id_of y)) → IsFromOlder n s y
    row_from e y c h = by (nat_lt n e.1.now.generation) refl h
      where
        by : (b : Bool) → nat_lt n e.1.now.generation ≡ b
            → Contains (cond b (fields_of e.1.now ++ others_of e.0) []) (Some (id_of y)) → IsFromOlder n s y
        by false is k = absurd (not_in_none (Some (id_of y)) k)
        by true is k =
            let old : is_older n s.objects (id_of e.0) ≡ true =
            ap (λ o. option_map_or (λ (q : Object Id). nat_lt n q.generation) o false) (stored_at e c) ∙ is in
            ⊎_elim
            (λ f. let (o, rest) = mapped_from (young n s.objects) e.1.now.fields (Some (id_of y)) f in
            let both = young_from n s.objects o (id_of y) rest.1 in (
              id_of e.0,
              (
                old,
                (
                  edge_at e y c (inl (subst (λ q. Contains e.1.now.fields q) both.0 rest.0)),
                  both.1,
                ),
              ),
            ))
            (λ f. let (j, rest) = mapped_from (young_at n s.objects) (secondaries l e.0) (Some (id_of y)) f in
            let both = young_from n s.objects (Some (id_of j)) (id_of y) rest.1 in
            let same : j ≡ y = ap (λ (z : Id). z.0) (same_Some (id_of j) (id_of y) both.0) in (
              id_of e.0,
              (
                old,
                (
                  edge_at e y c (inr (subst (λ q. Contains (secondaries l e.0) q) same rest.0)),
                  both.1,
                ),
              ),
            ))
            (Contains-append_cases (fields_of e.1.now) (others_of e.0) (Some (id_of y)) k)

    row_to : (x : Id) (y : ℕ) (o : Option (Object Id)) → get s.objects x.0 ≡ o
        → option_map_or (λ (q : Object Id). nat_lt n q.generation) o false ≡ true → YoungEdge n s x (id_of y)
        → IsAmong (joined (map (edges_from n s.objects l) listed)) y
    row_to x y None at old edge = absurd (false≢true old)
    row_to x y (Some o) at old edge =
        let (e, rest) = mapped_from lent_entry listed (x.0, o)
        (subst (λ es. Contains es (x.0, o)) (sym are) (entry_of s.objects x.0 o at)) in
        let row : ℕ × Object Id → List (Option Id) =
        λ q. cond (nat_lt n q.1.generation) (fields_of q.1 ++ others_of q.0) [] in
        let is : edges_from n s.objects l e ≡ fields_of o ++ others_of x.0 =
        ap row rest.1 ∙ ap (λ b. cond b (fields_of o ++ others_of x.0) []) old in
        let target : young n s.objects (Some (id_of y)) ≡ Some (id_of y) =
        young_to n s.objects (id_of y) edge.1 in
        joined_in (map (edges_from n s.objects l) listed) (edges_from n s.objects l e) (Some (id_of y))
        (mapped_in (edges_from n s.objects l) listed e rest.0)
        (subst (λ r. Contains r (Some (id_of y))) (sym is)
        (⊎_elim
        (λ f. Contains-append_left (fields_of o) (others_of x.0) (Some (id_of y))
        (subst (λ q. Contains (fields_of o) q) target
        (mapped_in (young n s.objects) o.fields (Some (id_of y))
        (subst (λ q. Contains (fields_in q) (Some (id_of y))) at f))))
        (λ f. Contains-append_right (fields_of o) (others_of x.0) (Some (id_of y))
        (subst (λ q. Contains (others_of x.0) q) target
        (mapped_in (young_at n s.objects) (secondaries l x.0) y f)))
        (edge_to s l lists x (id_of y) edge.0)))

    pub gains_older : (m o : Marked) → o ≡ with_rows m (map (edges_from n s.objects l) listed)
        → Gains (IsFromOlder n s) m o
    gains_older m o is =
        let rows = map (edges_from n s.objects l) listed in
        gains_like (IsAmong (joined rows)) (IsFromOlder n s) m o
        (λ y c. let (row, rest) = joined_from rows (Some (id_of y)) c in
        let (e, its) = mapped_from (edges_from n s.objects l) listed row rest.0 in
        row_from e y its.0 (subst (λ r. Contains r (Some (id_of y))) (sym its.1) rest.1))
        (λ y h. row_to h.0 y (get s.objects h.0.0) refl h.1.0 h.1.1)
        (subst (λ z. Gains (IsAmong (joined rows)) m z) (sym (is ∙ rows_joined m rows))
        (gains_targets m (joined rows)))

  pub none_older : HasGenerations s.objects → OLDEST ≤ n → (m : Marked) → Gains (IsFromOlder n s) m m
  none_older low most m =
      gains_none (IsFromOlder n s) m
      (λ y h. false≢true (sym (all_young s.objects low n most h.0) ∙ h.1.0))

  -- ---- what is reached and what is kept

  older_root : (x : Id) → is_older n s.objects x ≡ true → IsRoot (scene_of s) n x
  older_root x h = older ((older_generation n s.objects x).0 h)

  chain : {x y : Id} → Leads (YoungEdge n s) x y → Leads (EdgeOf s) x y
  chain Leads.here = Leads.here
  chain (Leads.more before edge) = Leads.more (chain before) edge.0

  -- what is marked is reached and followed, so all that an edge leads to is of a generation above n or marked
  module _ {p q : Marked} (closes : Closes (YoungEdge n s) p q) where
    abbrev above : Id → Bool
    above = is_above n s.objects q

    marked_above : (x : Id) → is_marked q x ≡ true → above x ≡ true
    marked_above x h = or_right (is_older n s.objects x) (is_marked q x) h

    older_above : (x : Id) → is_older n s.objects x ≡ true → above x ≡ true
    older_above x h = or_left (is_older n s.objects x) (is_marked q x) h

    closed_above : ((x y : Id) → is_older n s.objects x ≡ true → YoungEdge n s x y → is_marked q y ≡ true)
        → IsClosed (EdgeOf s) above
    closed_above from x y h edge =
        ⊎_elim (λ old. older_above y old)
        (λ new. marked_above y
        (⊎_elim (λ old. from x y old (edge, new)) (λ m. closes.closure.closed x y m (edge, new))
        (or_cases (is_older n s.objects x) (is_marked q x) h))) (older_or n s.objects y)

    pub reach_decided : Gains (IsYoungRoot n s) no_marks p → (x : Id)
        → Decides (above x) (IsReached (scene_of s) n x)
    reach_decided roots =
        decides_reached (scene_of s) n above
        (λ x root. ⊎_elim (λ old. older_above x old)
        (λ new. marked_above x (closes.closure.keeps x (roots.joins x.0 (inl (root, new)))))
        (older_or n s.objects x))
        (closed_above (λ x y old edge. closes.closure.keeps y (roots.joins y.0 (inr (x, (old, edge))))))
        (λ x h. ⊎_elim (λ old. (x, (older_root x old, Leads.here)))
        (λ m. let (r, rest) = closes.closure.only x m in
        ⊎_elim (λ none. absurd (nothing_marked r none))
        (λ root. ⊎_elim (λ k. (r, (k.0, chain rest.1)))
        (λ k. (
          k.0,
          (
            older_root k.0 k.1.0,
            leads_on (EdgeOf s) (one_edge (EdgeOf s) k.1.1.0) (chain rest.1),
          ),
        )) root)
        (roots.only r rest.0))
        (or_cases (is_older n s.objects x) (is_marked q x) h))

  -- and where that is marked
  module _ (q : Marked) (reached : (x : Id) → Decides (is_above n s.objects q x) (IsReached (scene_of s) n x))
      (ids : List ℕ) (young_are : ListsYoung n s.objects ids) where
    abbrev Woken : ℕ → Type 0
    Woken = IsAmong (map (resurrected_at n (is_marked q) s.objects) ids)

    -- for what may be resurrected, what is marked is what is reached
    woken_same : (x : Id) → is_woken n (is_marked q) s.objects x.0
        ≡ is_woken n (is_above n s.objects q) s.objects x.0
    woken_same x = by (get s.objects x.0)
      where
        young_same : (b : Bool) (o : Object Id) → nat_lt n o.generation ≡ b
            → wakes n (is_marked q x) o ≡ wakes n (b || is_marked q x) o
        young_same true o is =
            ap (λ c. o.registered && (c && not (is_marked q x))) (above_false n o.generation is)
            ∙ sym (ap (λ c. o.registered && (c && false)) (above_false n o.generation is))
        young_same false o is = refl

        by : (o : Option (Object Id)) → option_map_or (wakes n (is_marked q x)) o false
            ≡ option_map_or (wakes n (option_map_or (λ (z : Object Id). nat_lt n z.generation) o false
            || is_marked q x)) o false
        by None = refl
        by (Some o) = young_same (nat_lt n o.generation) o refl

    woken_from : (x : Id) → Woken x.0 → IsToBeFinalized (scene_of s) n x
    woken_from x h =
        let (k, rest) = mapped_from (resurrected_at n (is_marked q) s.objects) ids (Some x) h in
        let both = target_from (is_woken n (is_marked q) s.objects k) (Some (id_of k)) x rest.1 in
        let same : id_of k ≡ x = same_Some (id_of k) x both.1 in
        (woken_is n s (is_above n s.objects q) reached x).0
        (sym (woken_same x)
        ∙ subst (λ (z : Id). is_woken n (is_marked q) s.objects z.0 ≡ true) same both.0)

    woken_to : (x : Id) → IsToBeFinalized (scene_of s) n x → Woken x.0
    woken_to x v =
        let woken = woken_same x ∙ (woken_is n s (is_above n s.objects q) reached x).1 v in
        subst (λ o. Contains (map (resurrected_at n (is_marked q) s.objects) ids) o)
        (cond-true (is_woken n (is_marked q) s.objects x.0) (Some x) None woken)
        (mapped_in (resurrected_at n (is_marked q) s.objects) ids x.0
        (young_are.all x.0 v.object v.is_stored v.young))

    module _ {r k : Marked} (added : Gains Woken q r) (again : Closes (YoungEdge n s) r k) where
      kept_there : (x : Id) → is_above n s.objects q x ≡ true → is_above n s.objects k x ≡ true
      kept_there x h =
          ⊎_elim (λ old. older_above again x old)
          (λ m. marked_above again x (again.closure.keeps x (added.keeps x m)))
          (or_cases (is_older n s.objects x) (is_marked q x) h)

      -- and what is marked then is what is kept
      pub kept_decided : (x : Id) → Decides (is_above n s.objects k x) (IsKept (scene_of s) n x)
      kept_decided =
          decides_kept (scene_of s) n (is_above n s.objects k)
          (λ x h. kept_there x ((reached x).1 h))
          (λ x h. marked_above again x (again.closure.keeps x (added.joins x.0 (woken_to x h))))
          (closed_above again (λ x y old edge.
          let is : is_above n s.objects q y ≡ true =
          (reached y).1 (x, (older_root x old, one_edge (EdgeOf s) edge.0)) in
          again.closure.keeps y (added.keeps y
          (⊎_elim (λ h. absurd (false≢true (sym edge.1 ∙ h))) (λ m. m)
          (or_cases (is_older n s.objects y) (is_marked q y) is)))))
          (λ x h. ⊎_elim
          (λ old. (x, (inl (x, (older_root x old, Leads.here)), Leads.here)))
          (λ m. let (y, rest) = again.closure.only x m in (
            y,
            (
              ⊎_elim
                  (λ was. inl ((reached y).0 (or_right (is_older n s.objects y) (is_marked q y) was)))
                  (λ new. inr (woken_from y new)) (added.only y rest.0),
              chain rest.1,
            ),
          ))
          (or_cases (is_older n s.objects x) (is_marked k x) h))
