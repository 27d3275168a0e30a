-- The entries of a map in order, as the finite map that they make.
use Rattle.std.proofs.Common.{Bool, IfSome, IsSome, Less, List, None, Option, Some, T, [], ap, arith, cond, false, is_eq, is_gt, is_lt, is_some, length, nat_cmp, refl, slice_get, subst, sym, true, ℕ, ◌&&◌, ◌++◌, ◌∙◌, ◌∷◌, ◌≡◌, ◌≤◌}
use Rattle.std.proofs.lemmas.Bool.Decides.{nat_tests}
use Rattle.std.specs.BTreeMap as tree
use Rattle.std.specs.BTreeMap.Range.{IsEntryInRange, IsRangeOf}
use Rattle.std.specs.declared.ops.Bound.TheVariants.{Included, Unbounded}
use Rattle.hd_maps.specs.NextKeys.{IsGreatestKey, IsLeastKey}
use Rattle.std.specs.BTreeMap.{BTreeMap, IsOrdered, UpdatesBy, is_at}
use Rattle.std.specs.Cmp.{eq_by_cmp_equiv, nat_cmp_total}
use Rattle.std.specs.FinMap as map
use Rattle.std.specs.FinMap.{FinMap, find, is_sorted}
use Rattle.std.specs.FinMap.Entries.{below_all}
use Rattle.std.specs.List.{AllByRecursion}
use Rattle.std.specs.List.Sorted.{IsStrictlySortedBy}
use Rattle.std.specs.Map.{keys_of, lookup}
use Rattle.std.specs.Ordering.{eq_by_cmp}

both : (a b : Bool) → T a → T b → T (a && b)
both true b p q = q
both _ b p q = absurd p

module _ {X : Type 0} where
  below : (k : ℕ) (es : List (ℕ × X)) → AllByRecursion (λ y. nat_cmp k y ≡ Less) (keys_of es)
      → T (below_all nat_cmp k es)
  below k [] h = tt
  below k (e ∷ es) h = both _ _ (subst (λ r. T (is_lt r)) (sym h.0) tt) (below k es h.1)

  pub in_order : (es : List (ℕ × X)) → IsStrictlySortedBy nat_cmp (keys_of es) → T (is_sorted nat_cmp es)
  unfolding IsStrictlySortedBy
  in_order [] h = tt
  in_order (e ∷ es) h = both _ _ (below e.0 es h.0) (in_order es h.1)

  pub looked_up : (q : ℕ) (es : List (ℕ × X)) → lookup (is_at (nat_cmp q)) es ≡ find nat_cmp q es
  looked_up q [] = refl
  looked_up q (e ∷ es) = ap (cond (is_eq (nat_cmp q e.0)) (Some e.1)) (looked_up q es)

  -- the map of entries in order
  abbrev pub seen : List (ℕ × X) → FinMap nat_cmp X
  seen es = map.from_sorted es

  module _ (es : List (ℕ × X)) (h : IsStrictlySortedBy nat_cmp (keys_of es)) where
    pub entries_seen : map.entries (seen es) ≡ es
    entries_seen = map.entries-from_sorted nat_cmp es (in_order es h)

    pub get_seen : (q : ℕ) → map.get (seen es) q ≡ lookup (is_at (nat_cmp q)) es
    get_seen q = map.get-from_sorted nat_cmp es q (in_order es h) ∙ sym (looked_up q es)

    pub len_seen : map.len (seen es) ≡ length es
    len_seen = map.len-entries (seen es) ∙ ap length entries_seen

  module _ (m n : BTreeMap ℕ X) (was : IsOrdered nat_cmp m) (is : IsOrdered nat_cmp n) (k : ℕ) where
    updated : (w : Option X) (u : UpdatesBy nat_cmp (nat_cmp k) m n w) (q : ℕ)
        → map.get (seen n.entries) q ≡ cond (eq_by_cmp nat_cmp q k) w (map.get (seen m.entries) q)
    updated w u q =
        get_seen n.entries is q ∙ u.0 q
        ∙ ap (λ o. cond (is_at (nat_cmp k) q) w o) (sym (get_seen m.entries was q))
        ∙ ap (λ b. cond b w (map.get (seen m.entries) q)) ((eq_by_cmp_equiv nat_cmp_total).symm k q)

    pub inserted : (v : X) → UpdatesBy nat_cmp (nat_cmp k) m n (Some v)
        → seen n.entries ≡ map.insert (seen m.entries) k v
    inserted v u =
        map.same_map nat_cmp_total map.nat_cmp-IsAntisymmetric _ _ (λ q.
        updated (Some v) u q ∙ sym (map.get-insert nat_cmp_total (seen m.entries) k v q))

    pub removed : UpdatesBy nat_cmp (nat_cmp k) m n None → seen n.entries ≡ map.remove (seen m.entries) k
    removed u =
        map.same_map nat_cmp_total map.nat_cmp-IsAntisymmetric _ _ (λ q.
        updated None u q ∙ sym (map.get-remove nat_cmp_total (seen m.entries) k q))

  pub none_seen : (es : List (ℕ × X)) → es ≡ [] → seen es ≡ map.empty
  none_seen es e = map.empty_of_len (seen es) (ap (λ xs. map.len (seen xs)) e ∙ map.len-entries (seen [])
      ∙ ap length (map.entries-from_sorted {X = X} nat_cmp [] tt))

-- the orders that a range of a map goes by
not_above : (a q : ℕ) → a ≤ q → is_gt (nat_cmp a q) ≡ false
not_above a q h = grind (arith, nat_tests)

from_not_above : (a q : ℕ) → is_gt (nat_cmp a q) ≡ false → a ≤ q
from_not_above a q h = grind (arith, nat_tests)

from_not_below : (a q : ℕ) → is_lt (nat_cmp a q) ≡ false → q ≤ a
from_not_below a q h = grind (arith, nat_tests)

none_from : {A : Type 0} (o : Option A) → (IsSome o → ⊥) → o ≡ None
none_from None h = refl
none_from (Some x) h = absurd (h refl)

some_is : {A : Type 0} (o : Option A) (x : A) → o ≡ Some x → IsSome o
some_is o x e = ap is_some e

-- the entry of a range that comes first, and the one that comes last, by the map that is seen
module _ {X : Type 0} (m : BTreeMap ℕ X) (h : IsOrdered nat_cmp m) {f : FinMap nat_cmp X}
    (view : seen m.entries ≡ f) where
  lookup_is : (q : ℕ) → map.get f q ≡ tree.get nat_cmp m q
  lookup_is q = ap (λ n. map.get n q) (sym view) ∙ get_seen m.entries h q

  module _ {number : ℕ} {r : List (ℕ × X)} where
    pub least_of : IsRangeOf nat_cmp (Included number) Unbounded m r → (k : ℕ) (v : X) (t : List (ℕ × X))
        → r ≡ (k, v) ∷ t → IsLeastKey f number k
    least_of is k v t e =
        let P : List (ℕ × X) → Type 0 =
        λ xs. IfSome (slice_get xs 0) (IsEntryInRange nat_cmp (Included number) Unbounded m) in
        let entry : IsEntryInRange nat_cmp (Included number) Unbounded m (k, v) = subst P e is.1 in
        record {
          from = from_not_above number k entry.0.0;
          has = some_is _ v (lookup_is k ∙ entry.1);
          none = λ q low high. none_from _ (λ some.
              let Q : List (ℕ × X) → Type 0 =
              λ xs. IfSome (slice_get xs 0) (λ e. is_gt (nat_cmp e.0 q) ≡ false) in
              let below : k ≤ q = from_not_above k q (subst Q e (is.2 q (not_above number q low, tt)
              (subst IsSome (lookup_is q) some))) in
              let never : ⊥ = omega arith in never);
        }

    pub none_from_on : IsRangeOf nat_cmp (Included number) Unbounded m r → r ≡ []
        → (q : ℕ) → number ≤ q → map.get f q ≡ None
    none_from_on is e q low = lookup_is q ∙ is.5 e q (not_above number q low, tt)

    pub greatest_of : IsRangeOf nat_cmp Unbounded (Included number) m r → (k : ℕ) (v : X) (t : List (ℕ × X))
        → r ≡ t ++ (k, v) ∷ [] → IsGreatestKey f number k
    greatest_of is k v t e =
        let entry = is.3 (k, v) t e in
        record {
          to = from_not_above k number entry.0.1;
          has = some_is _ v (lookup_is k ∙ entry.1);
          none = λ q low high. none_from _ (λ some.
              let below : q ≤ k = from_not_below k q (is.4 (k, v) t e q (tt, not_above q number high)
              (subst IsSome (lookup_is q) some)) in
              let never : ⊥ = omega arith in never);
        }

    pub none_up_to : IsRangeOf nat_cmp Unbounded (Included number) m r → r ≡ []
        → (q : ℕ) → q ≤ number → map.get f q ≡ None
    none_up_to is e q high = lookup_is q ∙ is.5 e q (tt, not_above q number high)
