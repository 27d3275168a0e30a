-- A heap that lost registrations is the same to all but those who ask for them.
use Rattle.hd_gc.proofs.Basics.{Addr, Contains, HasNoEmptyRegion, HasSoundCards, Heap, IsSameShape, List, None, Object, Option, Placed, Some, StartsInRegion, Unregisters, [], ap, arith, card_of, cells_of, false, fields_at, fields_in, generation_at, generation_in, get, is_carded, is_in_use, length, object_at, object_in, option_map, placed_at, refl, region_generation, region_of, subst, sym, used_of, ℕ, ◌+◌, ◌<◌, ◌∙◌, ◌≡◌, ◌≤◌}
use Rattle.hd_final.proofs.SettleSteps.{same_by, settled_has}
use Rattle.hd_model.proofs.Sums.{share, sum-le}
use Rattle.std.specs.FinSet as set

-- what is read of an object as it is stored at an address
fields_placed : (h : Heap) (a : Addr) → fields_at (object_at h) a ≡ (placed_at h a).fields
fields_placed h a = by (get h.objects a.0)
  where
    by : (o : Option Placed) → fields_in (option_map (object_in (region_generation h (region_of a))) o)
        ≡ (Rattle.std.specs.Prelude.unwrap_or o (record {
          id = record { 0 = 0 };
          fields = [];
          value = 0;
          registered = false;
        })).fields
    by None = refl
    by (Some p) = refl

abbrev cells_in : Option (Object Addr) → ℕ
cells_in None = 0
cells_in (Some o) = length o.fields + 3

cells_placed : (h : Heap) (a : Addr) → cells_in (object_at h a) ≡ share cells_of (get h.objects a.0)
cells_placed h a = by (get h.objects a.0)
  where
    by : (o : Option Placed) → cells_in (option_map (object_in (region_generation h (region_of a))) o)
        ≡ share cells_of o
    by None = refl
    by (Some p) = refl

module _ {xs : List Addr} {h k : Heap} (u : Unregisters xs h k) where
  still_fields : (a : Addr) → fields_at (object_at k) a ≡ fields_at (object_at h) a
  still_fields a = same_by xs h k u a fields_in (elim [ None ↦ refl | Some o ↦ refl ])

  still_generation : (a : Addr) → generation_at (object_at k) a ≡ generation_at (object_at h) a
  still_generation a = same_by xs h k u a generation_in (elim [ None ↦ refl | Some o ↦ refl ])

  still_cells : (a : Addr) → cells_in (object_at k a) ≡ cells_in (object_at h a)
  still_cells a = same_by xs h k u a cells_in (elim [ None ↦ refl | Some o ↦ refl ])

  pub same_shape : IsSameShape h k
  same_shape = record {
    objects = settled_has xs h k u;
    fields = λ a. sym (fields_placed k a) ∙ still_fields a ∙ fields_placed h a;
    ids = u.ids;
    regions = ap (λ (g : Heap). g.regions) u.same;
    free = ap (λ (g : Heap). g.free) u.same;
  }

  pub same_cards : HasSoundCards (object_at h) (is_carded h) → HasSoundCards (object_at k) (is_carded k)
  same_cards sound x y field younger =
      ap (λ (g : Heap). set.contains g.cards (card_of x)) u.same
      ∙ sound x y (subst (λ fs. Contains fs (Some y)) (still_fields x) field)
      (subst (λ g. generation_at (object_at h) y < g) (still_generation x)
      (subst (λ g. g < generation_at (object_at k) x) (still_generation y) younger))

  pub same_used : used_of k ≤ used_of h
  same_used =
      sum-le cells_of k.objects h.objects
      (λ q. let a : Addr = record { 0 = q } in
      let same : share cells_of (get k.objects q) ≡ share cells_of (get h.objects q) =
      sym (cells_placed k a) ∙ still_cells a ∙ cells_placed h a in
      omega (arith, same))

  pub same_full : HasNoEmptyRegion h → HasNoEmptyRegion k
  same_full full r held =
      let start : StartsInRegion h r = full r (sym (ap (λ (g : Heap). is_in_use g r) u.same) ∙ held) in
      record { at = start.at; object = settled_has xs h k u start.at ∙ start.object; region = start.region }
