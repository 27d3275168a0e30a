-- The cells of all objects, after one is added, changed or taken out.
use Rattle.std.proofs.Common.{IsSome, List, None, Option, Some, [], ap, arith, false, is_some, length, nat_cmp, refl, subst, sym, true≢false, unwrap_or, ℕ, ◌+◌, ◌<◌, ◌≤◌, ◌^◌, ◌∙◌, ◌∷◌, ◌≡◌}
use Rattle.std.proofs.Common.{map as each, sum_by}
use Rattle.std.specs.FinMap as map
use Rattle.std.specs.FinMap.{FinMap, get, insert, remove}
use Rattle.hd_model.proofs.Basics.{cases_eq, nat_tests, none-some, ⊎_elim}
use Rattle.hd_model.proofs.ReadAfterWrite.{get_left, get_removed, inserted_from}
use Rattle.hd_model.proofs.Sums.{share, sum-insert, sum-remove}
use Rattle.hd_model.specs.Ages.{raised}
use Rattle.hd_model.specs.declared.limits.TheConstants.{OLDEST}
use Rattle.hd_model.specs.State.{Object, size_of}
use Rattle.hd_model.specs.declared.data.Id.{Id}
use Rattle.hd_maps.specs.StoredObjects.{AreFrom, IsYoungest, cells_of, object_in, edited}
use Rattle.hd_maps.specs.Inside.{IsCounted}
use Rattle.hd_maps.specs.declared.data.Edit.{Edit}
use Rattle.hd_maps.specs.declared.data.Edit.TheVariants as edit

-- no object
abbrev none : Object Id
none = record { fields = []; value = 0; generation = 0; registered = false }

found : (r : Option (Object Id)) {o : Object Id} → Some o ≡ r → o ≡ unwrap_or r none
found r e = ap (λ y. unwrap_or y none) e

-- no objects take no cells
pub cells-empty : cells_of (map.empty {X = Object Id} {R = nat_cmp}) ≡ 0
cells-empty =
    let bare : map.entries (map.empty {X = Object Id} {R = nat_cmp}) ≡ [] = no_length _
    (sym (map.len-entries (map.empty {X = Object Id} {R = nat_cmp})) ∙ map.len-empty nat_cmp (Object Id)) in
    ap (λ (es : List (ℕ × Object Id)). sum_by size_of (each (λ e. e.1) es)) bare
  where
    no_length : (es : List (ℕ × Object Id)) → length es ≡ 0 → es ≡ []
    no_length [] e = refl
    no_length (x ∷ es) e = absurd (omega arith)

module _ (m : FinMap nat_cmp (Object Id)) (k : ℕ) where
  pub cells-added : (v : Object Id) → get m k ≡ None → cells_of (insert m k v) ≡ cells_of m + size_of v
  cells-added v none = omega (arith, sum-insert size_of m k v, ap (share size_of) none)

  of_share : (o : Option (Object Id)) (n : ℕ) → get m k ≡ o → IsSome o
      → n ≡ length (object_in m k).fields → share size_of o ≡ n + 3
  of_share None n is some same = absurd (true≢false (sym some))
  of_share (Some x) n is some same =
      let found : object_in m k ≡ x = ap (λ o. unwrap_or o none) is in
      omega (arith, same, ap (λ (y : Object Id). length y.fields) found)

  pub cells-kept : (v : Object Id) → IsSome (get m k) → length v.fields ≡ length (object_in m k).fields
      → cells_of (insert m k v) ≡ cells_of m
  cells-kept v some same =
      omega (arith, sum-insert size_of m k v, of_share (get m k) (length v.fields) refl some same)

  -- an object in place of another with as many fields
  pub cells-edited : (o v : Object Id) → ◌≡◌ {A = Option (Object Id)} (Some o) (get m k)
      → length v.fields ≡ length o.fields → cells_of (insert m k v) ≡ cells_of m
  cells-edited o v is same =
      cells-kept v (ap is_some (sym is)) (same ∙ ap (λ (x : Object Id). length x.fields) (found (get m k) is))

  pub cells-taken : (v : Object Id) → get m k ≡ Some v → cells_of (remove m k) + size_of v ≡ cells_of m
  cells-taken v is = omega (arith, sum-remove size_of m k, ap (share size_of) is)

  pub cells-none : get m k ≡ None → cells_of (remove m k) ≡ cells_of m
  cells-none is = omega (arith, sum-remove size_of m k, ap (share size_of) is)

-- no change is one of the fields
pub edited-length : (e : Edit) (o : Object Id) → length (edited e o).fields ≡ length o.fields
edited-length (edit.Value value) o = refl
edited-length (edit.Registered registered) o = refl
edited-length (edit.Survives n resurrected) o = refl

-- objects that take as many cells as others are counted as they are
pub still-counted : {used : ℕ} {m n : FinMap nat_cmp (Object Id)} → IsCounted used m → cells_of n ≡ cells_of m
    → IsCounted used n
still-counted is same =
    record { count = is.count ∙ sym same; low = subst (λ k. k < 2 ^ 32) (sym same) is.low }

-- ---- how old objects are

module _ {g : ℕ} {m : FinMap nat_cmp (Object Id)} (is : IsYoungest g m) where
  from-inserted : (h : ℕ) → h ≤ g → (k : ℕ) (v : Object Id) → h ≤ v.generation → AreFrom h (insert m k v)
  from-inserted h less k v high q o e =
      ⊎_elim (λ old. let was = is.from q o old in omega (arith, was, less))
      (λ (new : (q ≡ k) × (v ≡ o)). subst (λ (x : Object Id). h ≤ x.generation) new.1 high)
      (inserted_from m k v q o e)

  -- an object more, which may be a younger one
  pub youngest-added : (h k : ℕ) (v : Object Id) → h ≤ g → h ≤ v.generation → IsYoungest h (insert m k v)
  youngest-added h k v less high = record {
    low = let low = is.low in omega (arith, less, low);
    from = from-inserted h less k v high;
  }

  -- an object in place of another
  pub youngest-edited : (k : ℕ) (o v : Object Id) → ◌≡◌ {A = Option (Object Id)} (Some o) (get m k)
      → (g ≤ o.generation → g ≤ v.generation) → IsYoungest g (insert m k v)
  youngest-edited k o v at high = youngest-added g k v (omega arith) (high (is.from k o (sym at)))

  pub youngest-removed : (k : ℕ) → IsYoungest g (remove m k)
  youngest-removed k = record {
    low = is.low;
    from = λ q o e.
        ⊎_elim (λ same. absurd (none-some o (sym (get_removed m k) ∙ ap (get (remove m k)) (sym same) ∙ e)))
        (λ ne. is.from q o (sym (get_left m k q ne) ∙ e)) (cases_eq q k);
  }

pub youngest-none : IsYoungest OLDEST (map.empty {X = Object Id} {R = nat_cmp})
youngest-none = record {
  low = omega arith;
  from = λ k o e. absurd (none-some o (sym (map.get-empty nat_cmp k) ∙ e));
}

-- no change makes an object younger than all
pub edited-from : {g : ℕ} → g ≤ OLDEST → (e : Edit) (o : Object Id) → g ≤ o.generation
    → g ≤ (edited e o).generation
edited-from low (edit.Value value) o high = high
edited-from low (edit.Registered registered) o high = high
edited-from low (edit.Survives n resurrected) o high = raised-from n low high
  where
    raised-from : (n : ℕ) {g h : ℕ} → g ≤ OLDEST → g ≤ h → g ≤ raised n h
    raised-from n low high = grind (arith, nat_tests)
