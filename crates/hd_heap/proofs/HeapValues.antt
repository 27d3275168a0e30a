-- Lemmas on the value of a heap alone: what one call leaves for the next.
use Rattle.hd_heap.proofs.Basics.{Addr, AreFull, FIELDS, HEADER, HasRoom, Heap, IsMade, IsRoom, List, None, Option, Placed, REGION, Region, Some, [], ap, arith, both_ways, cases_eq, cells_of, cond, drop, false, fields_at_heap, fields_in, found_first, found_later, get_inserted, get_or, has_object, inl, inr, is_in_use, is_some, length, max, nat_cmp, nat_cmp_total, object_at_heap, object_in, option_map, placed_at, refl, region_at, region_generation, region_of, subst, sym, take, take-length, true, unwrap_or, used_of, with_fresh, with_object, with_put, write_cases, ℕ, ◌*◌, ◌+◌, ◌<◌, ◌∙◌, ◌∷◌, ◌≡◌, ◌≢◌, ◌≤◌}
use Rattle.hd_heap.proofs.{Areas.some_of, RegionReads.has-get}
use Rattle.std.specs.FinMap as fin

abbrev pub no_placed : Placed
no_placed = record { id = record { 0 = 0 }; fields = []; value = 0; registered = false }

-- two addresses of one number are one
pub same_address : (a b : Addr) → a.0 ≡ b.0 → a ≡ b
same_address a b e = λ i. record { 0 = e i }

-- what a map has where something was put, and elsewhere
pub get_same : {A : Type 0} (m : fin.FinMap nat_cmp A) (k q : ℕ) (x : A) → q ≡ k
    → fin.get (fin.insert m k x) q ≡ Some x
get_same m k q x e = fin.get-insert nat_cmp_total m k x q ∙ found_first q k x (fin.get m q) e

pub get_other : {A : Type 0} (m : fin.FinMap nat_cmp A) (k q : ℕ) (x : A) → q ≢ k
    → fin.get (fin.insert m k x) q ≡ fin.get m q
get_other m k q x apart = fin.get-insert nat_cmp_total m k x q ∙ found_later q k (Some x) (fin.get m q) apart

-- what is put a second time replaces the first
pub put_twice : {A : Type 0} (m : fin.FinMap nat_cmp A) (k : ℕ) (x y : A)
    → fin.insert (fin.insert m k x) k y ≡ fin.insert m k y
put_twice m k x y = fin.same_map nat_cmp_total fin.nat_cmp-IsAntisymmetric _ _ (λ q. elim (cases_eq q k) [
  | inl same ↦ get_same (fin.insert m k x) k q y same ∙ sym (get_same m k q y same)
  | inr apart ↦ get_other (fin.insert m k x) k q y apart ∙ get_other m k q x apart
      ∙ sym (get_other m k q y apart)
])

-- and what is there may be put again
pub put_same : {A : Type 0} (m : fin.FinMap nat_cmp A) (k : ℕ) (x : A) → fin.get m k ≡ Some x
    → m ≡ fin.insert m k x
put_same m k x there = fin.same_map nat_cmp_total fin.nat_cmp-IsAntisymmetric _ _ (λ q. elim (cases_eq q k) [
  | inl same ↦ ap (fin.get m) same ∙ there ∙ sym (get_same m k q x same)
  | inr apart ↦ sym (get_other m k q x apart)
])

-- an object that is written to stays one, and so does each other
pub has_with_object : (h : Heap) (a x : Addr) (p : Placed) → has_object h x ≡ true
    → has_object (with_object h a p) x ≡ true
has_with_object h a x p is = has-get (with_object h a p) x
    ∙ write_cases h.objects a.0 (λ o. is_some o ≡ true) p x.0 (λ _. refl) (sym (has-get h x) ∙ is)

-- the fields of an object, read in two ways
pub fields_placed : (h : Heap) (x : Addr) → has_object h x ≡ true
    → fields_at_heap (object_at_heap h) x ≡ (placed_at h x).fields
fields_placed h x is =
    let some = some_of (fin.get h.objects x.0) (sym (has-get h x) ∙ is) in
    ap (λ o. fields_in (option_map (object_in (region_generation h (region_of x))) o)) some.1
    ∙ sym (ap (λ o. (unwrap_or o no_placed).fields) some.1)

-- the list of free regions after one was added where there was none: the same where there was one, and the
-- same without its first
same_free : (xs ys : List ℕ) → take (length xs) ys ≡ xs → length ys ≡ max 1 (length xs) → 0 < length xs
    → ys ≡ xs
same_free xs ys kept long some =
    let lengths : length ys ≡ length xs = omega (arith, long, some) in
    sym (take-length ys) ∙ ap (λ n. take n ys) lengths ∙ kept

same_rest : (xs ys : List ℕ) → take (length xs) ys ≡ xs → length ys ≡ max 1 (length xs)
    → drop 1 ys ≡ drop 1 xs
same_rest [] [] kept long = refl
same_rest [] (y ∷ []) kept long = refl
same_rest [] (y ∷ z ∷ zs) kept long = absurd (omega (arith, long))
same_rest (x ∷ xs) ys kept long = ap (drop 1) (same_free (x ∷ xs) ys kept long (omega arith))

abbrev pub blank : Region
blank = record { generation = 0; fill = 0 }

-- a region with room was in use
pub room_was : (h : Heap) (r size : ℕ) → HasRoom h r size → IsRoom h h r size
room_was h r size room =
    let some = (some_of (fin.get h.regions r) room.held).1 in
    record {
      room = room;
      full = λ free. absurd (both_ways _ free room.held);
      first = λ free. absurd (both_ways _ free room.held);
      is = λ i. record h {
        regions = put_same h.regions r (region_at h r) (some ∙ ap Some (sym (ap (λ o. unwrap_or o blank) some))) i;
        free = cond (sym room.held i) h.free (drop 1 h.free);
      };
    }

pub not_there : {A : Type 0} (o : Option A) → is_some o ≡ false → o ≡ None
not_there None e = refl
not_there (Some x) e = absurd (cc e)

-- a free region was taken into use, after memory was taken where there was none
pub room_made : (old mid new : Heap) (r size : ℕ) → mid ≡ record old { free = mid.free }
    → take (length old.free) mid.free ≡ old.free → length mid.free ≡ max 1 (length old.free)
    → r ≡ get_or mid.free 0 0 → is_in_use mid r ≡ false → new ≡ with_fresh mid r 0 → size ≤ FIELDS + HEADER
    → AreFull old
    → IsRoom old new r size
room_made old mid new r size same kept long number free fresh small full =
    let free_old : is_in_use old r ≡ false = sym (ap (λ (h : Heap). is_in_use h r) same) ∙ free in
    let is : new ≡ with_fresh old r 0 =
    fresh ∙ (λ i. record (same i) {
      regions = fin.insert (same i).regions r blank;
      free = same_rest old.free mid.free kept long i;
    }) in
    let got : fin.get new.regions r ≡ Some blank = ap (λ (h : Heap). fin.get h.regions r) is
    ∙ get_inserted old.regions r blank in
    let region = ap (λ (o : Option Region). unwrap_or o blank) got in
    let none : region_at old r ≡ blank = ap (λ o. unwrap_or o blank) (not_there (fin.get old.regions r) free_old) in
    record {
      room = record {
        held = ap is_some got;
        young = ap (λ (g : Region). g.generation) region;
        room = omega (arith, ap (λ (g : Region). g.fill) region, small);
      };
      full = λ _. full;
      first = λ _ some. number ∙ ap (λ ns. get_or ns 0 0) (same_free old.free mid.free kept long some);
      is = is ∙ (λ i. record old {
        regions = fin.insert old.regions r (sym none i);
        free = cond (sym free_old i) old.free (drop 1 old.free);
      });
    }

-- an object was made where there was room
pub made : (old mid new : Heap) (r size : ℕ) (at : Addr) (o : Placed) → used_of old + cells_of o ≤ old.limit
    → IsRoom old mid r size → at.0 ≡ r * REGION + (region_at mid r).fill → region_of at ≡ r
    → has_object mid at ≡ false → new ≡ with_put mid r (region_generation mid r) o → IsMade old new at o
made old mid new r size at o fits room address region free put =
    subst (λ n. IsRoom old mid n size → at.0 ≡ n * REGION + (region_at mid n).fill
    → new ≡ with_put mid n (region_generation mid n) o → IsMade old new at o) region made_there room
    address put
  where
    made_there : IsRoom old mid (region_of at) size
        → at.0 ≡ region_of at * REGION + (region_at mid (region_of at)).fill
        → new ≡ with_put mid (region_of at) (region_generation mid (region_of at)) o → IsMade old new at o
    made_there room address put =
        let n = region_of at in
        let is = room.is in
        let before = region_at old n in
        let region : region_at mid n ≡ before = ap (λ (h : Heap). region_at h n) is
        ∙ ap (λ (x : Option Region). unwrap_or x blank) (get_inserted old.regions n before) in
        let g : Region = record { generation = 0; fill = before.fill + cells_of o } in
        record {
          fits = fits;
          address = address ∙ ap (λ (x : Region). n * REGION + x.fill) region;
          was_free = has-get old at
              ∙ ap (λ m. is_some (fin.get m at.0)) (sym (ap (λ (h : Heap). h.objects) is))
              ∙ sym (has-get mid at) ∙ free;
          young = ap (λ (x : Region). x.generation) (sym region) ∙ room.room.young;
          full = room.full;
          first = room.first;
          made = put ∙ ap (λ x. with_put mid n x o) room.room.young
              ∙ (λ i. record (is i) {
                objects = fin.insert (is i).objects (n * REGION + (region i).fill) o;
                regions = fin.insert (is i).regions n
                    (record { generation = 0; fill = (region i).fill + cells_of o });
              }) ∙ ap (λ rs. record old {
                objects = fin.insert old.objects (n * REGION + before.fill) o;
                regions = rs;
                free = cond (is_in_use old n) old.free (drop 1 old.free);
              }) (put_twice old.regions n before g);
        }
