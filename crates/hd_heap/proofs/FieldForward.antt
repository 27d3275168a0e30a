-- Lemmas on the fields of an object, of which the first ones have their forwarding addresses.
use Rattle.hd_heap.proofs.Basics.{Addr, Bool, Contains, Contains-get_or, Contents, Heap, IsField, IsObject, List, MayForward, None, Object, Option, Some, [], address, ap, arith, drop, fields_at, fields_at_heap, first_in, forwarded, get_inserted, get_or, get_or_default_zero, is_some, later_in, length, map, map_over_more, mapped_in, nat_cmp, no_object, object_at, object_at_heap, option_map, placed_of, refl, region_forwarded, region_with_object, region_with_put, set, size_of, stored_forwarding, subst, suc, sym, take, true, unwrap_or, with_field, zero, ℕ, ◌++◌, ◌+◌, ◌<◌, ◌∙◌, ◌∷◌, ◌≡◌, ◌≢◌, ◌≤◌}
use Rattle.hd_heap.proofs.{Areas.object_there, HeapValues.put_same, HeapValues.put_twice, RegionReads.address_is}
use Rattle.std.specs.FinMap as fin

-- the first i fields of a list through a function, and the rest as they are
abbrev pub partly : (ℕ → ℕ) → ℕ → List ℕ → List ℕ
partly g i xs = map g (take i xs) ++ drop i xs

module _ (g : ℕ → ℕ) where
  length-partly : (i : ℕ) (xs : List ℕ) → length (partly g i xs) ≡ length xs
  length-partly zero xs = refl
  length-partly (suc i) [] = refl
  length-partly (suc i) (x ∷ xs) = ap suc (length-partly i xs)

  -- the next field is as it was
  partly_read : (i : ℕ) (xs : List ℕ) → get_or (partly g i xs) i 0 ≡ get_or xs i 0
  partly_read zero xs = refl
  partly_read (suc i) [] = refl
  partly_read (suc i) (x ∷ xs) = partly_read i xs

  -- it is written
  partly_next : (i : ℕ) (xs : List ℕ) → i < length xs
      → set (partly g i xs) i (g (get_or xs i 0)) ≡ partly g (i + 1) xs
  partly_next i xs below =
      let within : i < length (partly g i xs) = omega (arith, length-partly i xs, below) in
      map_over_more g xs (partly g i xs) i (get_or xs i 0) below refl
      (sym (get_or_default_zero (partly g i xs) i (get_or xs i 0) within ∙ partly_read i xs))

  -- all are written
  partly_all : (i : ℕ) (xs : List ℕ) → length xs ≤ i → partly g i xs ≡ map g xs
  partly_all zero [] past = refl
  partly_all zero (x ∷ xs) past = absurd (omega (arith, past))
  partly_all (suc i) [] past = refl
  partly_all (suc i) (x ∷ xs) past = ap (λ zs. g x ∷ zs) (partly_all i xs (omega (arith, past)))

-- the object that was put at an offset
module _ (r : Contents) (m : fin.FinMap nat_cmp Object) (at : ℕ) (o : Object)
    (is : r.objects ≡ fin.insert m at o) where
  pub placed_there : IsObject r at
  placed_there = ap (λ x. is_some (fin.get x at)) is ∙ ap is_some (get_inserted m at o)

  pub placed_is : object_at r at ≡ o
  placed_is = ap (λ x. unwrap_or (fin.get x at) no_object) is
      ∙ ap (λ x. unwrap_or x no_object) (get_inserted m at o)

-- the same of an object that was put after all others
pub put_placed : (r new : Contents) (at : ℕ) (o : Object) → at ≡ r.fill → new ≡ region_with_put r o
    → IsObject new at × (object_at new at ≡ o)
put_placed r new at o is put =
    let e : new.objects ≡ fin.insert r.objects at o =
    ap (λ (x : Contents). x.objects) put ∙ ap (λ k. fin.insert r.objects k o) (sym is) in
    (placed_there new r.objects at o e, placed_is new r.objects at o e)

-- an object that was put is another one, of the same size
pub put_again : (r : Contents) (at : ℕ) → at ≡ r.fill → (o p : Object) → size_of p ≡ size_of o
    → region_with_object (region_with_put r o) at p ≡ region_with_put r p
put_again r at is o p size i = record {
  objects = (ap (λ k. fin.insert (region_with_put r o).objects k p) is ∙ put_twice r.objects r.fill o p) i;
  fill = r.fill + sym size i;
}

-- how far the fields of an object have been written
abbrev pub partly_written : (ℕ → ℕ) → Contents → (at i : ℕ) → Object
partly_written g r at i = record (object_at r at) { fields = partly g i (fields_at r at) }

pub record IsForwarding (g : ℕ → ℕ) (r : Contents) (at i : ℕ) (now : Contents) : Type 0 where
  pub is : now ≡ region_with_object r at (partly_written g r at i)

pub forwarding_starts : (g : ℕ → ℕ) (r : Contents) (at : ℕ) → IsObject r at → IsForwarding g r at 0 r
forwarding_starts g r at there = record {
  is = ap (λ m. record r { objects = m }) (put_same r.objects at (object_at r at) (object_there r at there));
}

module _ {g : ℕ → ℕ} {r : Contents} {at i : ℕ} {now : Contents} (f : IsForwarding g r at i now) where
  objects_are : now.objects ≡ fin.insert r.objects at (partly_written g r at i)
  objects_are = ap (λ (x : Contents). x.objects) f.is

  pub forwarding_there : IsObject now at
  forwarding_there = placed_there now r.objects at (partly_written g r at i) objects_are

  object_is : object_at now at ≡ partly_written g r at i
  object_is = placed_is now r.objects at (partly_written g r at i) objects_are

  fields_are : fields_at now at ≡ partly g i (fields_at r at)
  fields_are = ap (λ (o : Object). o.fields) object_is

  pub forwarding_long : length (fields_at now at) ≡ length (fields_at r at)
  forwarding_long = ap length fields_are ∙ length-partly g i (fields_at r at)

  -- the next field has not been written
  pub forwarding_read : get_or (fields_at now at) i 0 ≡ get_or (fields_at r at) i 0
  forwarding_read = ap (λ xs. get_or xs i 0) fields_are ∙ partly_read g i (fields_at r at)

  -- it is written
  pub forwarding_next : (new : Contents) (v : ℕ) → i < length (fields_at r at)
      → v ≡ g (get_or (fields_at r at) i 0) → new ≡ region_with_object now at (with_field (object_at now at) i v)
      → IsForwarding g r at (i + 1) new
  forwarding_next new v below v_is written =
      let o = object_at r at in
      let before = partly_written g r at i in
      record {
        is = written ∙ (λ j. region_with_object (f.is j) at (with_field (object_is j) i (v_is j)))
            ∙ ap (λ m. record r { objects = m })
            (put_twice r.objects at before (with_field before i (g (get_or o.fields i 0))))
            ∙ ap (λ xs. region_with_object r at (record o { fields = xs }))
            (partly_next g i o.fields below);
      }

  -- all are
  pub forwarding_ends : length (fields_at r at) ≤ i
      → now ≡ region_with_object r at (record (object_at r at) { fields = map g (fields_at r at) })
  forwarding_ends past =
      f.is ∙ ap (λ xs. region_with_object r at (record (object_at r at) { fields = xs }))
      (partly_all g i (fields_at r at) past)

-- a reference in a field that is read is kept
pub field_kept : (kept : Addr → Bool) (fields : List ℕ) → MayForward kept fields → (i n : ℕ)
    → i < length fields → n ≡ get_or fields i 0 → n ≢ 0 → kept (record { 0 = n }) ≡ true
field_kept kept fields may i n below is some =
    may n (subst (λ (x : ℕ). Contains fields x) (sym is) (Contains-get_or fields i 0 below)) some

-- what the heap's users see of an object with forwarding addresses
fields_forwarded : (forwarding : Addr → Addr) (fields : List ℕ)
    → ((n : ℕ) → Contains fields n → n ≢ 0 → (forwarding (record { 0 = n })).0 ≢ 0)
    → map address (map (stored_forwarding forwarding) fields)
    ≡ map (option_map forwarding) (map address fields)
fields_forwarded forwarding [] some = refl
fields_forwarded forwarding (zero ∷ ns) some =
    ap (λ fs. None ∷ fs) (fields_forwarded forwarding ns (λ n has. some n (later_in zero ns n has)))
fields_forwarded forwarding (suc a ∷ ns) some = λ i.
    address_is (forwarding (record { 0 = suc a })).0 (some (suc a) (first_in (suc a) ns) (λ e. omega
    (arith, e))) i ∷ fields_forwarded forwarding ns (λ n has. some n (later_in (suc a) ns n has)) i

pub forwarded_placed : (forwarding : Addr → Addr) (o : Object)
    → ((n : ℕ) → Contains o.fields n → n ≢ 0 → (forwarding (record { 0 = n })).0 ≢ 0)
    → placed_of (region_forwarded forwarding o) ≡ forwarded forwarding (placed_of o)
forwarded_placed forwarding o some =
    λ i. record (placed_of o) { fields = fields_forwarded forwarding o.fields some i }

-- a field as it is stored is one of the heap's object
pub field_of : (P : Addr → Type 0) (h : Heap) (at : Addr) (fields : List ℕ)
    → fields_at_heap (object_at_heap h) at ≡ map address fields
    → ((y : Addr) → IsField (object_at_heap h) at y → P y)
    → (n : ℕ) → Contains fields n → n ≢ 0 → P (record { 0 = n })
field_of P h at fields is each n has some = each (record { 0 = n })
    (subst (λ (fs : List (Option Addr)). Contains fs (Some (record { 0 = n }))) (sym is)
    (subst (λ (x : Option Addr). Contains (map address fields) x) (address_is n some)
    (mapped_in address fields n has)))
