-- What pushes do to marks: one, and those of a scan.
use Rattle.hd_mark.proofs.Basics.{Addr, Contains, Contains-append_left, Contains-push, Contains-push_cases, FinSet, Gains, Heap, IsCondemned, IsField, IsLog, IsTraced, List, MarksOf, None, Option, Some, [], ap, append-nil, append_assoc, arith, both_ways, cond_both, contains, false, first_in, inl, inr, insert, is_object, is_older, later_in, left, length, length-append, log_of, ltb-false, marked_also, member_cases, nat_cmp, not_in_none, objects_of, or_parts, pairs_append, pairs_cons, pairs_none, promoted_in, pushed, refl, scanned, subst, sym, true, ℕ, ⊎_elim, ◌++◌, ◌+◌, ◌∙◌, ◌∷◌, ◌≡◌, ◌≢◌, ◌≤◌, ◌⊎◌}
use Rattle.hd_model.proofs.PinnedTargets.{counts_objects}
use Rattle.hd_mark.proofs.{MarkBits.insert_gains, UnmarkedCount.left_falls}

-- ---- one push

-- the log has one address more, which was not marked
log_more : (marks : FinSet nat_cmp) (log : List Addr) (a : Addr) → contains marks a.0 ≡ false
    → IsLog marks log → IsLog (insert marks a.0) (log ++ a ∷ [])
log_more marks log a unmarked l =
    let gains = insert_gains (λ x. false) marks a in
    record {
      apart = pairs_append (λ x y. x ≢ y) log (a ∷ []) l.apart
          (pairs_cons (λ x y. x ≢ y) a [] (λ y h. absurd (not_in_none y h)) (pairs_none (λ x y. x ≢ y)))
          (λ x y before last same.
          ⊎_elim (λ (e : a ≡ y). both_ways _ unmarked
          (ap (λ (z : Addr). contains marks z.0) (e ∙ sym same) ∙ l.each x before))
          (λ none. absurd (not_in_none y none)) (member_cases a [] y last));
      each = λ x h. ⊎_elim (λ before. gains.keeps x (l.each x before))
          (λ (e : a ≡ x). subst (λ (y : Addr). contains (insert marks a.0) y.0 ≡ true) e gains.joins)
          (Contains-push_cases log a x h);
      all = λ x h. ⊎_elim (λ was. Contains-append_left log (a ∷ []) x (l.all x was))
          (λ same. subst (Contains (log ++ a ∷ [])) (sym same) (Contains-push log a)) (gains.only x h);
    }

-- what is true between calls stays true where an object is marked that was not promoted
pub mark_traced : (m : MarksOf) (a : Addr) → is_object (objects_of m.basis) a ≡ true
    → promoted_in m a ≡ false → IsTraced m → IsTraced (marked_also m a)
mark_traced m a object out t =
    let (young, unmarked) = or_parts _ _ out in
    let gains = insert_gains (λ x. false) m.marks a in
    record {
      fields = t.fields;
      marked = λ x h. ⊎_elim (t.marked x)
          (λ same. subst (IsCondemned (objects_of m.basis) m.basis.condemned) (sym same)
          (record { object = object; young = ltb-false _ _ young })) (gains.only x h);
      log = subst (IsLog (insert m.marks a.0)) (append_assoc m.scanned m.unscanned (a ∷ []))
          (log_more m.marks (log_of m) a unmarked t.log);
      scanned = λ x h. ⊎_elim
          (λ was. ⊎_elim (λ on. inl (Contains-append_left m.unscanned (a ∷ []) x on))
          (λ (done : (y : Addr) → IsField (objects_of m.basis) x y → promoted_in m y ≡ true).
          inr (λ y f. (insert_gains (is_older m.basis) m.marks a).keeps y (done y f))) (t.scanned x was))
          (λ same. inl (subst (Contains (m.unscanned ++ a ∷ [])) (sym same) (Contains-push m.unscanned a)))
          (gains.only x h);
    }

-- what is promoted gains the object
pub push_gains : (m : MarksOf) (a : Addr) → Gains a (promoted_in m) (promoted_in (pushed m a))
push_gains m a =
    cond_both (promoted_in m a) m (marked_also m a) (λ n. Gains a (promoted_in m) (promoted_in n))
    (λ e. record { keeps = λ x h. h; joins = e; only = λ x h. inl h })
    (λ e. insert_gains (is_older m.basis) m.marks a)

pub pushed_basis : (m : MarksOf) (a : Addr) → (pushed m a).basis ≡ m.basis
pushed_basis m a =
    cond_both (promoted_in m a) m (marked_also m a) (λ n. n.basis ≡ m.basis) (λ e. refl) (λ e. refl)

-- ---- a scan

-- what each push keeps is true after a scan
scan_keeps : (P : MarksOf → Type 0) (fields : List (Option Addr)) (m : MarksOf) → P m
    → ((n : MarksOf) (y : Addr) → Contains fields (Some y) → P n → P (pushed n y)) → P (scanned m fields)
scan_keeps P [] m start step = start
scan_keeps P (None ∷ fields) m start step =
    scan_keeps P fields m start (λ n y h. step n y (later_in None fields (Some y) h))
scan_keeps P (Some a ∷ fields) m start step =
    scan_keeps P fields (pushed m a) (step m a (first_in (Some a) fields) start)
    (λ n y h. step n y (later_in (Some a) fields (Some y) h))

-- a scan is of one heap
pub scanned_basis : (fields : List (Option Addr)) (m : MarksOf) → (scanned m fields).basis ≡ m.basis
scanned_basis fields m =
    scan_keeps (λ n. n.basis ≡ m.basis) fields m refl (λ n y inside same. pushed_basis n y ∙ same)

-- what is promoted gains what the fields reference
pub promoted_before : (fields : List (Option Addr)) (m : MarksOf) (x : Addr) → promoted_in m x ≡ true
    → promoted_in (scanned m fields) x ≡ true
promoted_before fields m x h =
    scan_keeps (λ n. promoted_in n x ≡ true) fields m h (λ n y inside. (push_gains n y).keeps x)

pub promoted_since : (fields : List (Option Addr)) (m : MarksOf) (x : Addr)
    → promoted_in (scanned m fields) x ≡ true → (promoted_in m x ≡ true) ⊎ Contains fields (Some x)
promoted_since fields m x =
    scan_keeps (λ n. promoted_in n x ≡ true → (promoted_in m x ≡ true) ⊎ Contains fields (Some x)) fields m
    (λ h. inl h)
    (λ n y inside before h. ⊎_elim before
    (λ same. inr (subst (λ z. Contains fields (Some z)) (sym same) inside)) ((push_gains n y).only x h))

pub fields_promoted : (fields : List (Option Addr)) (m : MarksOf) (x : Addr) → Contains fields (Some x)
    → promoted_in (scanned m fields) x ≡ true
fields_promoted [] m x h = absurd (not_in_none (Some x) h)
fields_promoted (None ∷ fields) m x h =
    ⊎_elim (λ (e : None ≡ Some x). absurd (cc e)) (fields_promoted fields m x)
    (member_cases None fields (Some x) h)
fields_promoted (Some a ∷ fields) m x h =
    ⊎_elim
    (λ (e : Some a ≡ Some x). promoted_before fields (pushed m a) x
    (let same : a ≡ x = cc e in subst (λ z. promoted_in (pushed m a) z ≡ true) same (push_gains m a).joins))
    (fields_promoted fields (pushed m a) x) (member_cases (Some a) fields (Some x) h)

-- the objects that are not marked, and those that are to be scanned
unfoldable pub work : Heap → FinSet nat_cmp → List Addr → ℕ
work h marks unscanned = left marks (counts_objects h).members + length unscanned

-- addresses with a property are pushed
pub record Pushes (S : Addr → Type 0) (m n : MarksOf) : Type 0 where
  pub basis : n.basis ≡ m.basis
  pub pins : n.pins ≡ m.pins
  pub scanned : n.scanned ≡ m.scanned
  pub more : List Addr
  pub unscanned : n.unscanned ≡ m.unscanned ++ more
  pub each : (x : Addr) → Contains more x → S x
  pub work : work m.basis.heap n.marks n.unscanned ≤ work m.basis.heap m.marks m.unscanned

-- one that is not promoted
pushes_more : {S : Addr → Type 0} {m n : MarksOf} (a : Addr) → S a → is_object (objects_of m.basis) a ≡ true
    → promoted_in n a ≡ false → Pushes S m n → Pushes S m (marked_also n a)
unfolding work
pushes_more {S} {m} {n} a start object out p =
    let all = counts_objects m.basis.heap in
    let unmarked : contains n.marks a.0 ≡ false = (or_parts (is_older n.basis a) _ out).1 in
    let falls = left_falls n.marks a all.members all.apart unmarked (all.all a object) in
    record {
      basis = p.basis;
      pins = p.pins;
      scanned = p.scanned;
      more = p.more ++ a ∷ [];
      unscanned = ap (λ xs. xs ++ a ∷ []) p.unscanned ∙ append_assoc m.unscanned p.more (a ∷ []);
      each = λ x h. ⊎_elim (p.each x) (λ e. subst S e start) (Contains-push_cases p.more a x h);
      work = omega (arith, falls, p.work, length-append n.unscanned (a ∷ []));
    }

-- a scan pushes what the fields reference
pub scan_pushes : {S : Addr → Type 0} (fields : List (Option Addr)) (m : MarksOf)
    → ((y : Addr) → Contains fields (Some y) → S y × (is_object (objects_of m.basis) y ≡ true))
    → Pushes S m (scanned m fields)
scan_pushes {S} fields m start =
    scan_keeps (Pushes S m) fields m
    (record {
      basis = refl;
      pins = refl;
      scanned = refl;
      more = [];
      unscanned = sym (append-nil m.unscanned);
      each = λ x h. absurd (not_in_none x h);
      work = omega arith;
    })
    (λ n y inside p. cond_both (promoted_in n y) n (marked_also n y) (Pushes S m) (λ e. p)
    (λ e. pushes_more y (start y inside).0 (start y inside).1 e p))
