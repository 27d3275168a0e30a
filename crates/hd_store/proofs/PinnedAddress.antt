-- The address of an object may be returned as its pinned address.
use Rattle.hd_store.proofs.StoreWords.{Addr, AreAddresses, FinMap, HasAddress, Id, IsFreeAddress, IsSome, IsStored, Machine, MatchOption, MayReturn, Meet, None, Option, Parts, Placed, Some, ap, arith, cells_of, get, has_object, inl, inr, insert, is_some, machine_of, name_in, names_of, nat_cmp, object_by_id, object_named, placed_at, range_at, refl, region_of, same_Some, size_of, state_of, subst, sym, true, with_pinned, ℕ, ◌<◌, ◌^◌, ◌∙◌, ◌≡◌, insert_cases}
use Rattle.hd_heap.specs.Sound.{IsSound}
use Rattle.hd_model.proofs.SceneCollection.{mapped_value}
use Rattle.hd_store.proofs.{IdentityReadings.no_some, IdentityReadings.names-get, HeapCallReadings.object-named, HeapCallReadings.known_object, StateCounts.read-size}

module _ (f : Parts) (stored : IsStored f) (sound : IsSound f.heap) where
  abbrev m : Machine
  m = machine_of f

  -- the size of an object is that of what is stored at its address
  size_is : (x : Addr) → has_object f.heap x ≡ true
      → size_of (object_named (machine_of f) x) ≡ cells_of (placed_at f.heap x)
  size_is x is = ap size_of (object-named f stored x is) ∙ read-size f.heap x.0 (placed_at f.heap x)

  low : (x : Addr) → has_object f.heap x ≡ true → x.0 < 2 ^ 32
  unfolding region_of
  low x is =
      let held = sound.held x is in
      let number = sound.numbers (region_of x) held in
      omega (arith, number.1)

  meets_none : (x y : Addr) → has_object f.heap x ≡ true → has_object f.heap y ≡ true → (x.0 ≡ y.0 → ⊥)
      → Meet (range_at x.0 (object_named (machine_of f) x)) (range_at y.0 (object_named (machine_of f) y)) → ⊥
  meets_none x y here there apart meet =
      let mine = size_is x here in
      let yours = size_is y there in
      elim (Rattle.std.proofs.lemmas.Bool.cases_order x.0 y.0) [
        | inl same ↦ apart same
        | inr (inl less) ↦ let gap = sound.apart x y here there less in omega (arith, gap, meet.right, mine)
        | inr (inr more) ↦ let gap = sound.apart y x there here more in omega (arith, gap, meet.left, yours)
      ]

  -- the object at an address with an identity
  identified : (a : ℕ) (x : Id) → get (names_of f.heap) a ≡ Some x → (p : Placed)
      × ((get f.heap.objects a ≡ Some p) × (p.id ≡ x))
  identified a x named =
      mapped_value (λ (p : Placed). p.id) (get f.heap.objects a) x (sym (names-get f.heap a) ∙ named)

  -- two addresses with one identity are one
  one_address : (a b : ℕ) (x : Id) → get (names_of f.heap) a ≡ Some x → get (names_of f.heap) b ≡ Some x
      → a ≡ b
  one_address a b x first second =
      let (o, one) = identified a x first in
      let (p, other) = identified b x second in
      stored.identities a b o p one.0 other.0 (one.1 ∙ sym other.1)

  module _ (at : Addr) (known : IsSome (get (names_of f.heap) at.0)) where
    abbrev id : Id
    id = name_in (names_of f.heap) at

    here : has_object f.heap at ≡ true
    here = known_object f.heap at known

    name_there : (o : Option Id) → IsSome o
        → o ≡ Some (Rattle.std.specs.Prelude.unwrap_or o (record { 0 = 0 }))
    name_there None is = absurd (subst Rattle.std.specs.Prelude.T (sym is) tt)
    name_there (Some x) is = refl

    name_at : get (names_of f.heap) at.0 ≡ Some (name_in (names_of f.heap) at)
    name_at = name_there (get (names_of f.heap) at.0) known

    name_from : (a : ℕ) (y : Id) → get (names_of f.heap) a ≡ Some y
        → name_in (names_of f.heap) (record { 0 = a }) ≡ y
    name_from a y is = ap (λ o. Rattle.std.specs.Prelude.unwrap_or o (record { 0 = 0 })) is

    module _ (p : FinMap nat_cmp ℕ) (are : AreAddresses (names_of f.heap) p) where
      free_address : get p (name_in (names_of f.heap) at).0 ≡ None
          → IsFreeAddress (with_pinned (state_of f) p) (name_in (names_of f.heap) at) at.0
      free_address none = record {
        small = low at here;
        apart = λ y other is meet.
            let there : Addr = record { 0 = other } in
            let name = are y.0 other is in
            let object = known_object f.heap there (ap is_some name) in
            let mine = name_from other (record { 0 = y.0 }) name in
            meets_none at there here object
            (λ same. no_some other (sym is ∙ ap (λ (i : Id). get p i.0)
            (same_Some y (name_in (names_of f.heap) at)
            (sym name ∙ ap (get (names_of f.heap)) (sym same) ∙ name_at)) ∙ none))
            (subst (λ i. Meet (range_at at.0 (object_by_id (state_of f) (name_in (names_of f.heap) at)))
            (range_at other (object_by_id (state_of f) i))) (sym mine) meet);
      }

      may_return : MayReturn (with_pinned (state_of f) p) (name_in (names_of f.heap) at) at.0
      may_return = by (get p (name_in (names_of f.heap) at).0) refl
        where
          by : (o : Option ℕ) → get p (name_in (names_of f.heap) at).0 ≡ o
              → MatchOption o (IsFreeAddress (with_pinned (state_of f) p) (name_in (names_of f.heap) at) at.0)
              (λ own. at.0 ≡ own)
          by None e = free_address e
          by (Some own) e = one_address at.0 own (name_in (names_of f.heap) at) name_at
              (are (name_in (names_of f.heap) at).0 own e)

      addresses_with : AreAddresses (names_of f.heap) (insert p (name_in (names_of f.heap) at).0 at.0)
      addresses_with x a =
          insert_cases p (name_in (names_of f.heap) at).0
          (λ z o. o ≡ Some a → get (names_of f.heap) a ≡ Some (record { 0 = z })) at.0 x
          (λ is. ap (get (names_of f.heap)) (sym (same_Some at.0 a is)) ∙ name_at) (λ _. are x a)

pub has-address : (f : Parts) (m : Machine) → machine_of f ≡ m → IsStored f → IsSound f.heap → (at : Addr)
    → IsSome (get m.names at.0) → HasAddress m at
has-address f m view stored sound at known =
    subst (λ (n : Machine). HasAddress n at) view (record {
      may = λ p are. may_return f stored sound at
          (subst (λ (n : Machine). IsSome (get n.names at.0)) (sym view) known) p are;
      addresses = λ p are. addresses_with f stored sound at
          (subst (λ (n : Machine). IsSome (get n.names at.0)) (sym view) known) p are;
    })
