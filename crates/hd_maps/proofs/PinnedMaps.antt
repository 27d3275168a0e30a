-- Pinned addresses by object and by address: what is put and taken, and what two neighbours decide.
use Rattle.hd_model.proofs.Basics.{Bool, FinMap, None, Some, ap, arith, cases_eq, cases_lt, empty, false, get, get-empty, inl, inr, insert, nat_cmp, nat_cmp-IsAntisymmetric, nat_cmp_total, none-some, refl, remove, same_Some, same_map, subst, sym, true, ℕ, ⊎_elim, ◌+◌, ◌<◌, ◌∙◌, ◌≡◌, ◌≢◌, ◌≤◌, ◌⊎◌}
use Rattle.std.proofs.Common.{IsTrue, leb}
use Rattle.std.proofs.lemmas.Bool.{false≢true, le-leb, leb-true}
use Rattle.hd_model.proofs.MapEntries.{some_value}
use Rattle.hd_model.proofs.ReadAfterWrite.{get_inserted, get_beside, get_left, get_removed, remove_cases}
use Rattle.hd_model.specs.State.{Object, size_of}
use Rattle.hd_model.specs.declared.data.Id.{Id}
use Rattle.hd_maps.specs.PinnedObjects.{AreApart, IsApart}
use Rattle.hd_maps.specs.StoredObjects.{object_in}
use Rattle.hd_maps.specs.NextKeys.{IsGreatestKey, IsLeastKey}
use Rattle.hd_maps.specs.Inside.{AreInverse, BeginAfter, EndBefore}

pub none_inverse : AreInverse empty empty
none_inverse = record {
  there = λ x p e. absurd (none-some p (sym (get-empty nat_cmp x) ∙ e));
  back = λ p x e. absurd (none-some x (sym (get-empty nat_cmp p) ∙ e));
}

module _ (m n : FinMap nat_cmp ℕ) (inverse : AreInverse m n) (x p : ℕ) where
  pub put_inverse : get m x ≡ None → ((y : ℕ) → get m y ≢ Some p) → AreInverse (insert m x p) (insert n p x)
  put_inverse none free = record {
    there = λ y q e. ⊎_elim
        (λ same. let is : p ≡ q = same_Some p q (sym (get_inserted m x p)
        ∙ ap (get (insert m x p)) (sym same) ∙ e) in
        subst (λ z. get (insert n p x) z ≡ Some y) is
        (get_inserted n p x ∙ ap (λ (z : ℕ). Some z) (sym same)))
        (λ ne. let old : get m y ≡ Some q = sym (get_beside m x p y ne) ∙ e in
        get_beside n p x q (λ same. free y (old ∙ ap (λ (z : ℕ). Some z) same)) ∙ inverse.there y q old)
        (cases_eq y x);
    back = λ q y e. ⊎_elim
        (λ same. let is : x ≡ y = same_Some x y (sym (get_inserted n p x)
        ∙ ap (get (insert n p x)) (sym same) ∙ e) in
        subst (λ z. get (insert m x p) z ≡ Some q) is
        (get_inserted m x p ∙ ap (λ (z : ℕ). Some z) (sym same)))
        (λ ne. let old : get m y ≡ Some q = inverse.back q y (sym (get_beside n p x q ne) ∙ e) in
        get_beside m x p y (λ same. none-some q (sym none ∙ ap (get m) (sym same) ∙ old)) ∙ old)
        (cases_eq q p);
  }

  pub take_inverse : get m x ≡ Some p → AreInverse (remove m x) (remove n p)
  take_inverse has = record {
    there = λ y q e. ⊎_elim
        (λ same. absurd (none-some q (sym (get_removed m x) ∙ ap (get (remove m x)) (sym same) ∙ e)))
        (λ ne. let old : get m y ≡ Some q = sym (get_left m x y ne) ∙ e in
        get_left n p q (λ same. ne (same_Some y x (sym (inverse.there y q old) ∙ ap (get n) same
        ∙ inverse.there x p has))) ∙ inverse.there y q old)
        (cases_eq y x);
    back = λ q y e. ⊎_elim
        (λ same. absurd (none-some y (sym (get_removed n p) ∙ ap (get (remove n p)) (sym same) ∙ e)))
        (λ ne. let old : get m y ≡ Some q = inverse.back q y (sym (get_left n p q ne) ∙ e) in
        get_left m x y (λ same. ne (same_Some q p (sym old ∙ ap (get m) same ∙ has))) ∙ old)
        (cases_eq q p);
  }

  pub absent_inverse : get m x ≡ None → AreInverse (remove m x) n
  absent_inverse none = record {
    there = λ y q e. ⊎_elim
        (λ same. absurd (none-some q (sym (get_removed m x) ∙ ap (get (remove m x)) (sym same) ∙ e)))
        (λ ne. inverse.there y q (sym (get_left m x y ne) ∙ e)) (cases_eq y x);
    back = λ q y e. let old : get m y ≡ Some q = inverse.back q y e in
        get_left m x y (λ same. none-some q (sym none ∙ ap (get m) (sym same) ∙ old)) ∙ old;
  }

-- what is put and taken again was never there
pub put_and_taken : (m : FinMap nat_cmp ℕ) (x p : ℕ) → get m x ≡ None → remove (insert m x p) x ≡ m
put_and_taken m x p none =
    same_map nat_cmp_total nat_cmp-IsAntisymmetric _ _ (λ q.
    remove_cases (insert m x p) x (λ y o. o ≡ get m y) q (sym none) (λ ne. get_beside m x p q ne))

-- the two parts of what it is that cells are apart from all others
module _ (objects : FinMap nat_cmp (Object Id)) (m : FinMap nat_cmp ℕ) (address size : ℕ)
    (some : 0 < size) where
  pub apart_from : EndBefore objects m address → BeginAfter m address (address + size)
      → IsApart objects m (record { first = address; end = address + size })
  apart_from before after y other e meet =
      ⊎_elim (λ low. let l = meet.left in let a = after y.0 other e low in let r = meet.right in
      let never : ⊥ = omega arith in never)
      (λ high. let b = before y.0 other e high in let l = meet.left in let never : ⊥ = omega arith in never)
      (le_cases address other)
    where
      le_cases : (a b : ℕ) → (a ≤ b) ⊎ (b ≤ a)
      le_cases a b = ⊎_elim (λ low. inl (omega arith)) (λ high. inr high) (cases_lt a b)

  pub ends_before : IsApart objects m (record { first = address; end = address + size })
      → EndBefore objects m address
  ends_before apart y other e low =
      ⊎_elim (λ meets. absurd
      (apart (record { 0 = y }) other e (record { left = meets; right = omega arith })))
      (λ ends. ends) (cases_lt address (other + size_of (object_in objects y)))

  pub begins_after : IsApart objects m (record { first = address; end = address + size })
      → BeginAfter m address (address + size)
  begins_after apart y other e low =
      ⊎_elim (λ meets. absurd
      (apart (record { 0 = y }) other e (record { left = omega arith; right = meets })))
      (λ ends. ends) (cases_lt other (address + size))

module _ (objects : FinMap nat_cmp (Object Id)) (m n : FinMap nat_cmp ℕ) (inverse : AreInverse m n)
    (address : ℕ) where
  pub none_before : ((q : ℕ) → q ≤ address → get n q ≡ None) → EndBefore objects m address
  none_before none y other e low = absurd (none-some y (sym (none other low) ∙ inverse.there y other e))

  -- an object at the greatest key is the only one that matters
  pub one_before : AreApart objects m → (k x : ℕ) → IsGreatestKey n address k → get n k ≡ Some x
      → k + size_of (object_in objects x) ≤ address → EndBefore objects m address
  one_before apart k x key at ends y other e low =
      ⊎_elim
      (λ above. absurd (none-some y (sym (key.none other above low) ∙ inverse.there y other e)))
      (λ below. ⊎_elim
      (λ same. let is : y ≡ x = same_Some y x (sym (inverse.there y other e) ∙ ap (get n) same ∙ at) in
      subst (λ z. z + size_of (object_in objects y) ≤ address) (sym same)
      (subst (λ z. k + size_of (object_in objects z) ≤ address) (sym is) ends))
      (λ ne. ⊎_elim
      (λ meets. absurd (apart (record { 0 = y }) (record { 0 = x }) other k e (inverse.back k x at)
      (λ same. ne (same_Some other k (sym e ∙ ap (λ (z : Id). get m z.0) same ∙ inverse.back k x at)))
      (record { left = omega arith; right = meets })))
      (λ apart_is. omega arith) (cases_lt k (other + size_of (object_in objects y))))
      (cases_eq other k)) (cases_lt k other)

  pub one_ends : (k x : ℕ) → IsGreatestKey n address k → get n k ≡ Some x → EndBefore objects m address
      → k + size_of (object_in objects x) ≤ address
  one_ends k x key at before = before x k (inverse.back k x at) key.to

  pub none_after : (end : ℕ) → ((q : ℕ) → address ≤ q → get n q ≡ None) → BeginAfter m address end
  none_after end none y other e low = absurd (none-some y (sym (none other low) ∙ inverse.there y other e))

  pub one_after : (k end : ℕ) → IsLeastKey n address k → end ≤ k → BeginAfter m address end
  one_after k end key begins y other e low =
      ⊎_elim (λ below. absurd (none-some y (sym (key.none other low below) ∙ inverse.there y other e)))
      (λ above. omega arith) (cases_lt other k)

  pub one_begins : (k end : ℕ) → IsLeastKey n address k → BeginAfter m address end → end ≤ k
  one_begins k end key after =
      let (x, at) = some_value (get n k) key.has in after x k (inverse.back k x at) key.from

-- ---- what the two neighbours decide, of a value that the map is seen as

module _ (objects : FinMap nat_cmp (Object Id)) (m n now : FinMap nat_cmp ℕ) (inverse : AreInverse m n)
    (seen : m ≡ now) (address p : ℕ) (same : p ≡ address) where
  pub before_none : ((q : ℕ) → q ≤ p → get n q ≡ None)
      → (IsTrue true → EndBefore objects now address) × (EndBefore objects now address → IsTrue true)
  before_none none = (
    λ _. subst (λ (z : FinMap nat_cmp ℕ). EndBefore objects z address) seen
        (none_before objects m n inverse address (λ q low. none q (subst (λ z. q ≤ z) (sym same) low))),
    λ _. refl,
  )

  pub before_some : AreApart objects now → (k x size up : ℕ) → IsGreatestKey n p k → get n k ≡ Some x
      → size ≡ size_of (object_in objects x) → up ≡ address
      → (IsTrue (leb (k + size) up) → EndBefore objects now address)
      × (EndBefore objects now address → IsTrue (leb (k + size) up))
  before_some apart k x size up key at is high =
      let near : IsGreatestKey n address k = subst (λ z. IsGreatestKey n z k) same key in
      let each : AreApart objects m =
      subst (λ (z : FinMap nat_cmp ℕ). AreApart objects z) (sym seen) apart in (
        λ t. let l : k + size ≤ up = leb-true (k + size) up t in
            subst (λ (z : FinMap nat_cmp ℕ). EndBefore objects z address) seen
            (one_before objects m n inverse address each k x near at (omega (arith, l, is, high))),
        λ ends. let l : k + size_of (object_in objects x) ≤ address =
            one_ends objects m n inverse address k x near at
            (subst (λ (z : FinMap nat_cmp ℕ). EndBefore objects z address) (sym seen) ends) in
            le-leb (k + size) up (omega (arith, l, is, high)),
      )

  pub after_none : (end : ℕ) → ((q : ℕ) → p ≤ q → get n q ≡ None)
      → (IsTrue true → BeginAfter now address end) × (BeginAfter now address end → IsTrue true)
  after_none end none = (
    λ _. subst (λ (z : FinMap nat_cmp ℕ). BeginAfter z address end) seen
        (none_after objects m n inverse address end (λ q low. none q (subst (λ z. z ≤ q) (sym same) low))),
    λ _. refl,
  )

  pub after_some : (k a b size : ℕ) → IsLeastKey n p k → a ≡ address → b ≡ size
      → (IsTrue (leb (a + b) k) → BeginAfter now address (address + size))
      × (BeginAfter now address (address + size) → IsTrue (leb (a + b) k))
  after_some k a b size key first second =
      let near : IsLeastKey n address k = subst (λ z. IsLeastKey n z k) same key in (
        λ t. let l : a + b ≤ k = leb-true (a + b) k t in
            subst (λ (z : FinMap nat_cmp ℕ). BeginAfter z address (address + size)) seen
            (one_after objects m n inverse address k (address + size) near (omega (arith, l, first, second))),
        λ begins. let l : address + size ≤ k =
            one_begins objects m n inverse address k (address + size) near
            (subst (λ (z : FinMap nat_cmp ℕ). BeginAfter z address (address + size)) (sym seen) begins) in
            le-leb (a + b) k (omega (arith, l, first, second)),
      )

-- both together
module _ (objects : FinMap nat_cmp (Object Id)) (m : FinMap nat_cmp ℕ) (address size : ℕ)
    (some : 0 < size) where
  pub free_if_after : (a b : Bool) → IsTrue a
      → (IsTrue a → EndBefore objects m address) × (EndBefore objects m address → IsTrue a)
      → (IsTrue b → BeginAfter m address (address + size)) × (BeginAfter m address (address + size)
      → IsTrue b) → (IsTrue b → IsApart objects m (record { first = address; end = address + size }))
      × (IsApart objects m (record { first = address; end = address + size }) → IsTrue b)
  free_if_after a b leaves before after = (
    λ t. apart_from objects m address size some (before.0 leaves) (after.0 t),
    λ apart. after.1 (begins_after objects m address size some apart),
  )

  pub not_free : (a : Bool) → a ≡ false
      → (IsTrue a → EndBefore objects m address) × (EndBefore objects m address → IsTrue a)
      → (IsTrue a → IsApart objects m (record { first = address; end = address + size }))
      × (IsApart objects m (record { first = address; end = address + size }) → IsTrue a)
  not_free a none before = (
    λ t. absurd (false≢true (sym none ∙ t)),
    λ apart. before.1 (ends_before objects m address size some apart),
  )
