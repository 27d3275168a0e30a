-- Objects stay where they are when another one is made, and when one is written.
use Rattle.std.proofs.Common.{◌≡◌, ℕ, ◌<◌, true, false, Option, Some, None, is_some, length, sym, ap, ◌∙◌, subst, arith}
use Rattle.std.specs.Prelude.{IfSome, option_map}
use Rattle.std.specs.FinMap as map
use Rattle.std.specs.Ordering.{nat_cmp}
use Rattle.std.proofs.lemmas.List.{length-replicate}
use Rattle.hd_model.specs.declared.data.Addr.{Addr}
use Rattle.hd_model.specs.declared.data.Id.{Id}
use Rattle.hd_model.specs.Scene.{fields_at, fields_in}
use Rattle.hd_model.specs.Heap.{Heap, Placed, has_object, object_at, object_in, placed_at, region_generation, region_of}
use Rattle.hd_model.proofs.ReadAfterWrite.{get_inserted}
use Rattle.hd_heap.specs.Calls.{IsMade, new_object, stored, with_field, with_object}
use Rattle.hd_heap.proofs.HeapValues.{has_with_object}
use Rattle.hd_heap.proofs.RegionReads.{has-get}

module _ {old new : Heap} {at : Addr} {o : Placed} (m : IsMade old new at o) where
  put_at : new.objects ≡ map.insert old.objects at.0 o
  put_at = ap (λ (h : Heap). h.objects) m.made ∙ ap (λ k. map.insert old.objects k o) (sym m.address)

  placed : map.get new.objects at.0 ≡ Some o
  placed = ap (λ (os : map.FinMap nat_cmp Placed). map.get os at.0) put_at ∙ get_inserted old.objects at.0 o

  pub made_there : has_object new at ≡ true
  made_there = has-get new at ∙ ap is_some placed

  pub made_fields : fields_at (object_at new) at ≡ o.fields
  made_fields = ap (λ (p : Option Placed). fields_in
      (option_map (object_in (region_generation new (region_of at))) p)) placed

  still_there : (x : Addr) → has_object old x ≡ true → has_object new x ≡ true
  still_there x is =
      has-get new x ∙ ap (λ (os : map.FinMap nat_cmp Placed). is_some (map.get os x.0)) put_at
      ∙ sym (has-get (with_object old at o) x) ∙ has_with_object old at x o is

  pub still_some : (v : Option Addr) → IfSome v (λ x. has_object old x ≡ true)
      → IfSome v (λ x. has_object new x ≡ true)
  still_some None none = tt
  still_some (Some x) is = still_there x is

pub node_field : {old new : Heap} {at : Addr} (id : Id) → IsMade old new at (new_object id 1 false)
    → 0 < length (fields_at (object_at new) at)
node_field {old} {new} {at} id m =
    let null : Option Addr = None in
    let one : length (fields_at (object_at new) at) ≡ 1 = ap length (made_fields m) ∙ length-replicate 1 null in
    omega (arith, one)

pub stored_there : (h now : Heap) (at x : Addr) (i : ℕ) (v : Option Addr) → now ≡ stored h at i v
    → has_object h x ≡ true → has_object now x ≡ true
stored_there h now at x i v is there =
    subst (λ (g : Heap). has_object g x ≡ true) (sym is)
    (has_with_object h at x (with_field (placed_at h at) i v) there)

pub written_there : (h now : Heap) (at x : Addr) (p : Placed) → now ≡ with_object h at p
    → has_object h x ≡ true → has_object now x ≡ true
written_there h now at x p is there =
    subst (λ (g : Heap). has_object g x ≡ true) (sym is) (has_with_object h at x p there)
