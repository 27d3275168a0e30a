-- The cells of the objects that have pinned addresses, listed in rising address.
use Rattle.std.proofs.Common.{List, None, Option, Some, ap, arith, get_or, is_some, length, option_map, refl, sym, ℕ, ◌<◌, ◌∙◌, ◌≡◌}
use Rattle.std.specs.Prelude.{AllPairs, Contains, IsSome, ◌↔◌}
use Rattle.std.specs.FinMap.{get}
use Rattle.std.proofs.lemmas.List.{get_or_default}
use Rattle.std.proofs.lemmas.Option.{none-some, same_Some}
use Rattle.hd_model.specs.declared.data.Id.{Id}
use Rattle.hd_model.specs.State.{State, object_by_id, size_of}
use Rattle.hd_audit.specs.Before.{AreTaken, pinned_cells}
use Rattle.hd_maps.specs.PinnedObjects.{IsBelow}
use Rattle.hd_audit.specs.declared.entry_choice.PinnedCells.{PinnedCells}
use Rattle.hd_maps.proofs.AddressIds.{Gathers}

abbrev pub BeginsBelow : PinnedCells → PinnedCells → Type 0
BeginsBelow a b = a.first < b.first

abbrev cells_from : State → Id → ℕ → PinnedCells
cells_from s id address = record { first = address; count = size_of (object_by_id s id) }

its_cells : (s : State) (id : Id) (p : PinnedCells) (o : Option ℕ) → get s.pinned id.0 ≡ o
    → option_map (cells_from s id) o ≡ Some p
    → (get s.pinned id.0 ≡ Some p.first) × (p.count ≡ size_of (object_by_id s id))
its_cells s id p None is none = absurd (none-some p none)
its_cells s id p (Some address) is some =
    let same = same_Some (cells_from s id address) p some in
    (is ∙ ap (λ (q : PinnedCells). Some q.first) same, sym (ap (λ (q : PinnedCells). q.count) same))

abbrev pub cells_at : State → List ℕ → ℕ → Option PinnedCells
cells_at s ids k = pinned_cells s (record { 0 = get_or ids k 0 })

-- where these are all objects with an address, all cells are listed
pub cells_all : (s : State) (ids : List ℕ) → ((id : ℕ) → Contains ids id ↔ IsSome (get s.pinned id)) → (i : ℕ)
    → i ≡ length ids → (cells : List PinnedCells) → Gathers BeginsBelow (cells_at s ids) i cells
    → AreTaken s cells
cells_all s ids are i end cells gathers = record {
  only = λ p h.
      let found = gathers.each p h in
      let id : Id = record { 0 = get_or ids found.0 0 } in
      let its = its_cells s id p (get s.pinned id.0) refl found.2 in
      (id, its.0, its.1);
  all = listed;
  rising = gathers.pairs;
}
  where
    listed : (id : Id) (address : ℕ) → get s.pinned id.0 ≡ Some address
        → Contains cells (cells_from s id address)
    listed id address is =
        let key = (are id.0).1 (ap is_some is) in
        let low = key.1 in
        let at : get_or ids key.0 0 ≡ id.0 = get_or_default ids key.0 0 id.0 low ∙ key.2 in
        gathers.all key.0 (cells_from s id address) (omega (arith, low, end))
        (ap (λ x. pinned_cells s (record { 0 = x })) at ∙ ap (option_map (cells_from s id)) is)

-- and they come in the order of the objects
pub cells_rise : (s : State) (ids : List ℕ) → AllPairs (IsBelow s.pinned) ids → (i : ℕ) → i < length ids
    → (k : ℕ) (x y : PinnedCells) → k < i → cells_at s ids k ≡ Some x → cells_at s ids i ≡ Some y
    → BeginsBelow x y
cells_rise s ids rising i low k x y less first second =
    rising k i 0 less low x.first y.first (address_of k x first) (address_of i y second)
  where
    address_of : (j : ℕ) (p : PinnedCells) → cells_at s ids j ≡ Some p
        → get s.pinned (get_or ids j 0) ≡ Some p.first
    address_of j p is =
        let id : Id = record { 0 = get_or ids j 0 } in (its_cells s id p (get s.pinned id.0) refl is).0
