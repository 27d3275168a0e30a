-- No region in use is empty at first, nor after an object is made.
use Rattle.std.proofs.Common.{◌≡◌, ℕ, ◌+◌, ◌*◌, true, Option, Some, None, is_some, nat_cmp, refl, sym, ap, ◌∙◌, subst, inl, inr}
use Rattle.std.specs.Prelude.{option_map}
use Rattle.std.specs.FinMap as map
use Rattle.std.proofs.lemmas.Bool.{cases_eq, false≢true}
use Rattle.hd_model.specs.declared.data.Addr.{Addr}
use Rattle.hd_model.specs.Heap.{Heap, Placed, Region, has_object, object_in, region_at, region_of, region_generation, is_in_use, cells_of}
use Rattle.hd_model.proofs.ReadAfterWrite.{get_inserted, get_beside}
use Rattle.hd_heap.specs.Calls.{empty_heap, IsMade}
use Rattle.hd_plan.specs.Plan.{HasNoEmptyRegion, StartsInRegion}

pub full_empty : (h : Heap) (limit : ℕ) → h ≡ empty_heap limit → HasNoEmptyRegion h
full_empty h limit e r held =
    absurd (false≢true (sym (ap is_some (map.get-empty {X = Region} nat_cmp r))
    ∙ subst (λ (g : Heap). is_in_use g r ≡ true) e held))

-- whether there is an object does not depend on its generation
there_in : (g : ℕ) (o : Option Placed) → is_some (option_map (object_in g) o) ≡ is_some o
there_in g None = refl
there_in g (Some p) = refl

module _ (old new : Heap) (at : Addr) (o : Placed) (m : IsMade old new at o)
    (full : HasNoEmptyRegion old) where
  abbrev Key : ℕ
  Key = region_of at * 256 + (region_at old (region_of at)).fill

  objects_are : new.objects ≡ map.insert old.objects Key o
  objects_are = ap (λ (h : Heap). h.objects) m.made

  abbrev Held : Region
  Held = record { generation = 0; fill = (region_at old (region_of at)).fill + cells_of o }

  regions_are : new.regions ≡ map.insert old.regions (region_of at) Held
  regions_are = ap (λ (h : Heap). h.regions) m.made

  there_now : (a : Addr) → is_some (map.get new.objects a.0) ≡ true → has_object new a ≡ true
  there_now a e = there_in (region_generation new (region_of a)) (map.get new.objects a.0) ∙ e

  made_is_there : has_object new at ≡ true
  made_is_there =
      there_now at
      (ap (λ k. is_some (map.get new.objects k)) m.address
      ∙ ap (λ (os : map.FinMap nat_cmp Placed). is_some (map.get os Key)) objects_are
      ∙ ap is_some (get_inserted old.objects Key o))

  still_there : (a : Addr) → has_object old a ≡ true → has_object new a ≡ true
  still_there a e =
      let was : is_some (map.get old.objects a.0) ≡ true =
      sym (there_in (region_generation old (region_of a)) (map.get old.objects a.0)) ∙ e in
      there_now a
      (ap (λ (os : map.FinMap nat_cmp Placed). is_some (map.get os a.0)) objects_are
      ∙ elim (cases_eq a.0 Key) [
        | inl same ↦ ap (λ k. is_some (map.get (map.insert old.objects Key o) k)) same
            ∙ ap is_some (get_inserted old.objects Key o)
        | inr other ↦ ap is_some (get_beside old.objects Key o a.0 other) ∙ was
      ])

  pub full_made : HasNoEmptyRegion new
  full_made r held =
      elim (cases_eq r (region_of at)) [
        | inl same ↦ record { at = at; object = made_is_there; region = sym same }
        | inr other ↦
            let was : is_in_use old r ≡ true =
            sym (ap is_some (get_beside old.regions (region_of at) Held r other))
            ∙ sym (ap (λ (rs : map.FinMap nat_cmp Region). is_some (map.get rs r)) regions_are) ∙ held in
            let start : StartsInRegion old r = full r was in
            record { at = start.at; object = still_there start.at start.object; region = start.region }
      ]
