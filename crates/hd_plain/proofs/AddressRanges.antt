-- Free addresses, by the cells of the objects that have a pinned one.
use Rattle.std.proofs.Common.{Some, [], ap, arith, false, is_some, length, refl, subst, Bool, ℕ, ◌+◌, ◌<◌, ◌^◌, ◌≡◌, ⊎_elim}
use Rattle.std.specs.FinMap.{get}
use Rattle.std.specs.Prelude.{IsTrue, ◌↔◌}
use Rattle.hd_model.proofs.WellFormedSteps.{some_at}
use Rattle.hd_model.specs.declared.data.Id.{Id}
use Rattle.hd_model.specs.PinnedAddresses.{IsFreeAddress, Range, range_at}
use Rattle.hd_model.specs.State.{Numbers, Object, State, object_by_id, size_of}
use Rattle.hd_model.specs.UserLaws.{HasPinnedApart, TakesCells}
use Rattle.hd_model.specs.WellFormed.{IsWellFormed}
use Rattle.hd_maps.specs.PinnedObjects.{AreApart, IsApart}

-- no object
abbrev none : Object Id
none = record { fields = []; value = 0; generation = 0; registered = false }

module _ (n : Numbers) (s : State) (w : IsWellFormed n s) where
  placed : (x : Id) (p : ℕ) → get s.pinned x.0 ≡ Some p → get s.objects x.0 ≡ Some (object_by_id s x)
  placed x p is = some_at s x (w.names.pinned x.0 (ap is_some is))

  takes : (x : Id) (p : ℕ) → get s.pinned x.0 ≡ Some p
      → TakesCells s x p (p + (length (object_by_id s x).fields + 3))
  takes x p is =
      record { object = object_by_id s x; is_stored = placed x p is; address = is; end_is = refl }

  pub are_apart : HasPinnedApart s → AreApart s.objects s.pinned
  are_apart apart x y first other is has ne meet =
      ⊎_elim (λ low. absurd (omega (arith, low, meet.right)))
      (λ high. absurd (omega (arith, high, meet.left)))
      (apart.apart x y first (first + (length (object_by_id s x).fields + 3)) other
      (other + (length (object_by_id s y).fields + 3)) (takes x first is) (takes y other has) ne)

  pub free_is : (id : Id) (address end : ℕ) (b : Bool) → address < 2 ^ 32
      → (IsTrue b ↔ IsApart s.objects s.pinned (record { first = address; end = end }))
      → end ≡ address + size_of (object_by_id s id) → (IsTrue b ↔ IsFreeAddress s id address)
  free_is id address end b small both same =
      let range : ◌≡◌ {A = Range} (record { first = address; end = end })
      (range_at address (object_by_id s id)) = λ i. record { first = address; end = same i } in
      let here = subst (λ r. IsTrue b ↔ IsApart s.objects s.pinned r) range both in
      (λ t. record { small = small; apart = here.0 t }, λ f. here.1 f.apart)
