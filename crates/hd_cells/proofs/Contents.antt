-- Lemmas on what callers see of a region's cells.
use Rattle.hd_cells.proofs.Basics.{CELLS, Contents, HEADER, HoldsObject, IsBody, IsLaid, IsLaidOut, IsObject, IsRegion, IsWhole, List, None, Object, Option, PARTS, REGISTERED, Some, [], ap, arith, both_ways, cell, cond, contents_of, count_at, drop, empty_region, eq_by_cmp, extent_at, fields_at, get_or, get_or-drop, get_or-take, is_some, leb, length, length-drop, length-take, nat_cmp, nat_cmp_total, no_object, object_at, objects_of, refl, subst, suc, sym, take, true, unwrap_or, with_object, zero, ℕ, ◌%◌, ◌+◌, ◌-◌, ◌<◌, ◌^◌, ◌∙◌, ◌∷◌, ◌≡◌, ◌≤◌}
use Rattle.std.proofs.lemmas.List.Elements.{All-from_get_or}
use Rattle.hd_cells.specs.{Cells.object_in}
use Rattle.hd_cells.proofs.RegionTiles.{extent_at-body, tiling_read, found, found_apart, IsTile, as_body, changed_tiling}
use Rattle.std.specs.FinMap as map

-- a region is read as its cells are laid out
pub laid_read : {c : List ℕ} {fill : ℕ} {os : List (ℕ × Object)} → IsLaid c fill os → objects_of c fill ≡ os
laid_read l = tiling_read l.tiled CELLS l.within

pub laid_region : {c : List ℕ} {fill : ℕ} {os : List (ℕ × Object)} → IsLaid c fill os → IsRegion c fill
laid_region {c} {fill} l =
    let Q : List (ℕ × Object) → Type 0 = λ xs. IsLaid c fill xs in
    subst Q (sym (laid_read l)) l

pub laid_contents : {c : List ℕ} {fill : ℕ} {os : List (ℕ × Object)} → IsLaid c fill os
    → (m : map.FinMap nat_cmp Object) → map.from_entries os ≡ m
    → contents_of c fill ≡ record { objects = m; fill = fill }
laid_contents {fill = fill} l m e =
    let maps : map.from_entries (objects_of _ fill) ≡ m = ap map.from_entries (laid_read l) ∙ e in
    λ i. record { objects = maps i; fill = fill }

-- what the map has at an offset
pub get-objects : (c : List ℕ) (fill q : ℕ) → map.get (contents_of c fill).objects q ≡ map.find nat_cmp q
    (objects_of c fill)
get-objects c fill q = map.get-from_entries nat_cmp_total (objects_of c fill) q

some_of : (o : Option Object) → is_some o ≡ true → (x : Object) × (o ≡ Some x)
some_of None e = absurd (cc e)
some_of (Some x) e = (x, refl)

-- the cells and the allocation pointer of a region, and its value
pub record IsRead (c : List ℕ) (fill : ℕ) (r : Contents) : Type 0 where
  pub len : length c ≡ CELLS
  pub region : IsRegion c fill
  pub view : contents_of c fill ≡ r

pub opened : {c starts : List ℕ} {fill stale : ℕ} {r : Contents} → (length c ≡ CELLS) × (length starts ≡ PARTS)
    → IsWhole c fill starts stale → contents_of c fill ≡ r → IsRead c fill r
opened lengths whole view = record { len = lengths.0; region = whole.region; view = view }

-- what the cells hold where callers see an object
pub record IsHeld (c : List ℕ) (fill : ℕ) (r : Contents) (at : ℕ) : Type 0 where
  pub is_body : IsBody c at
  pub reach : extent_at c at ≡ count_at c at + HEADER
  pub high : at + (count_at c at + HEADER) ≤ r.fill
  pub within : r.fill ≤ CELLS
  pub finds : map.find nat_cmp at (objects_of c fill) ≡ Some (object_in c at)
  pub identity : (object_at r at).identity ≡ cell c at
  pub value : (object_at r at).value ≡ cell c (at + 2)
  pub registered : (object_at r at).registered ≡ leb REGISTERED (cell c (at + 1))
  pub fields : fields_at r at ≡ take (count_at c at) (drop (at + HEADER) c)
  pub count : length (fields_at r at) ≡ count_at c at
  pub field : (i : ℕ) → i < count_at c at → get_or (fields_at r at) i 0 ≡ cell c (at + HEADER + i)

-- the fields that are read are the cells after the first three
length_fields : (c : List ℕ) (at n : ℕ) → at + (n + HEADER) ≤ length c → length
    (take n (drop (at + HEADER) c)) ≡ n
length_fields c at n fits = omega (arith, length-take n (drop (at + HEADER) c), length-drop (at + HEADER) c)

get_or_field : (c : List ℕ) (at n i : ℕ) → i < n → get_or (take n (drop (at + HEADER) c)) i 0 ≡ cell c
    (at + HEADER + i)
get_or_field c at n i below = get_or-take n (drop (at + HEADER) c) i 0 below ∙ get_or-drop (at + HEADER) c i 0

held_by_cells : (c : List ℕ) (fill : ℕ) → length c ≡ CELLS → IsRegion c fill → (at : ℕ)
    → IsObject (contents_of c fill) at → IsHeld c fill (contents_of c fill) at
unfolding object_in
held_by_cells c fill len r at is =
    let some = some_of (map.get (contents_of c fill).objects at) is in
    let finds : map.find nat_cmp at (objects_of c fill) ≡ Some some.0 = sym (get-objects c fill at)
    ∙ some.1 in
    let f = found r.tiled at some.0 finds in
    let reach = extent_at-body f.is_body in
    let high = f.high in
    let within = r.within in
    let is_in : object_at (contents_of c fill) at ≡ object_in c at =
    ap (λ (o : Option Object). unwrap_or o no_object) some.1 ∙ f.is in
    let fields : fields_at (contents_of c fill) at ≡ take (count_at c at) (drop (at + HEADER) c) =
    ap (λ (o : Object). o.fields) is_in in
    record {
      is_body = f.is_body;
      reach = reach;
      high = omega arith;
      within = within;
      finds = finds ∙ ap Some f.is;
      identity = ap (λ (o : Object). o.identity) is_in;
      value = ap (λ (o : Object). o.value) is_in;
      registered = ap (λ (o : Object). o.registered) is_in;
      fields = fields;
      count = ap length fields ∙ length_fields c at (count_at c at) (omega arith);
      field = λ i below. ap (λ (xs : List ℕ). get_or xs i 0) fields
          ∙ get_or_field c at (count_at c at) i below;
    }

take_all : (xs : List ℕ) (n : ℕ) → length xs ≤ n → take n xs ≡ xs
take_all [] zero low = refl
take_all [] (suc n) low = refl
take_all (x ∷ xs) zero low = absurd (omega (arith, low))
take_all (x ∷ xs) (suc n) low = ap (λ ys. x ∷ ys) (take_all xs n (omega (arith, low)))

module _ {c : List ℕ} {fill : ℕ} {r : Contents} (read : IsRead c fill r) where
  pub held : (at : ℕ) → IsObject r at → IsHeld c fill r at
  held at is =
      let P : Contents → Type 0 = λ x. IsObject x at → IsHeld c fill x at in
      subst P read.view (held_by_cells c fill read.len read.region at) is

  -- the first three cells of an object
  pub object_inside : (at : ℕ) → IsObject r at → at + HEADER ≤ CELLS
  object_inside at is = let h = held at is in omega (arith, h.high, h.within)

  -- where an object ends
  pub object_below : (at : ℕ) → IsObject r at → at + (count_at c at + HEADER) ≤ fill
  object_below at is =
      let h = held at is in omega (arith, h.high, ap (λ (x : Contents). x.fill) read.view)

  -- the cells from an object on
  pub object_cells : (at : ℕ) → IsObject r at → HoldsObject (take (CELLS - at) (drop at c)) (object_at r at)
  object_cells at is =
      let h = held at is in
      let b = h.is_body in
      let shape = get_or-drop at c 1 0 in
      let after = λ (i : ℕ). get_or-drop at c (HEADER + i) 0 ∙ ap (cell c) (three at i) in
      let whole = take_all (drop at c) (CELLS - at) (omega (arith, length-drop at c, read.len)) in
      subst (λ (xs : List ℕ). HoldsObject xs (object_at r at)) (sym whole) record {
        long = omega (arith, h.count, h.high, h.within, read.len, length-drop at c);
        identity = get_or-drop at c 0 0 ∙ ap (cell c) (none at) ∙ sym h.identity;
        identified = λ e. b.identified (sym h.identity ∙ e);
        shaped = rw shape b.shaped;
        count = ap (λ n. n % REGISTERED) shape ∙ sym h.count;
        few_fields = omega (arith, h.count, b.few_fields);
        registered = ap (leb REGISTERED) shape ∙ sym h.registered;
        value = get_or-drop at c 2 0 ∙ sym h.value;
        field = λ i below. after i ∙ sym (h.field i (omega (arith, below, h.count)));
        addresses = λ i below. omega (arith, after i, b.addresses i (omega (arith, below, h.count)));
      }
    where
      none : (at : ℕ) → at + 0 ≡ at
      none at = omega arith

      three : (at i : ℕ) → at + (HEADER + i) ≡ at + HEADER + i
      three at i = omega arith

  -- objects are laid out in a region as its callers see
  pub laid_out : IsLaidOut r
  laid_out =
      let fills = ap (λ (x : Contents). x.fill) (sym read.view) in
      record {
        within_region = omega (arith, fills, read.region.within);
        well_formed = λ at is.
            let h = held at is in
            record {
              identified = λ e. h.is_body.identified (sym h.identity ∙ e);
              few_fields = omega (arith, h.is_body.few_fields, h.count);
              addresses = All-from_get_or (λ (f : ℕ). f < 2 ^ 32) (fields_at r at) 0 (λ i below.
                  let inside : i < count_at c at = omega (arith, below, h.count) in
                  let P : ℕ → Type 0 = λ f. f < 2 ^ 32 in
                  subst P (sym (h.field i inside)) (h.is_body.addresses i inside));
            };
        below_fill = λ at is. let h = held at is in omega (arith, h.count, h.high);
        apart = λ a b is_a is_b below.
            let h = held a is_a in
            (let known =
            found_apart read.region.tiled a b (object_in c a) (object_in c b)
            h.finds (held b is_b).finds below in
            omega (arith, h.reach, h.count, known));
      }

-- cells changed within an object, so that a tile as long as that object begins there
pub record IsRewrite (c d : List ℕ) (at : ℕ) : Type 0 where
  pub lengths : length d ≡ length c
  pub before : (k : ℕ) → k < at → cell d k ≡ cell c k
  pub beyond : (k : ℕ) → at + extent_at c at ≤ k → cell d k ≡ cell c k
  pub reach : extent_at d at ≡ extent_at c at

-- the region after such a change: its map has the new tile there and else is as it was
pub changed_region : {c : List ℕ} {fill : ℕ} {r : Contents} → IsRead c fill r → (d : List ℕ) (at : ℕ)
    (w : Option Object) (m : map.FinMap nat_cmp Object) → IsHeld c fill r at → IsRewrite c d at
    → IsTile d at w → ((q : ℕ) → map.get m q ≡ cond (eq_by_cmp nat_cmp q at) w (map.get r.objects q))
    → IsRead d fill (record r { objects = m })
changed_region {c} {fill} read d at w m h rewrite tile gets =
    let laid = read.region in
    let fills = ap (λ (x : Contents). x.fill) (sym read.view) in
    let changed = changed_tiling laid.tiled at (object_in c at) h.finds d w tile rewrite.lengths
    (λ k low below. rewrite.before k below) (λ k low below. rewrite.beyond k low) rewrite.reach in
    let now : IsLaid d fill changed.after = record { tiled = changed.tiled; within = laid.within } in
    let maps : map.from_entries changed.after ≡ m = map.same_map nat_cmp_total map.nat_cmp-IsAntisymmetric _ _
    (λ q. map.get-from_entries nat_cmp_total changed.after q ∙ changed.finds q
    ∙ ap (λ (o : Option Object). cond (eq_by_cmp nat_cmp q at) w o) (sym (get-objects c fill q)
    ∙ ap (λ (x : Contents). map.get x.objects q) read.view)
    ∙ sym (gets q)) in
    record {
      len = rewrite.lengths ∙ read.len;
      region = laid_region now;
      view = laid_contents now m maps ∙ (λ i. record { objects = m; fill = sym fills i });
    }

-- no object is in an empty region
none_in_empty : (at : ℕ) → IsObject empty_region at → ⊥
none_in_empty at is = both_ways _ (ap is_some (map.get-empty {X = Object} nat_cmp at)) is

pub empty_laid_out : IsLaidOut empty_region
empty_laid_out = record {
  within_region = omega arith;
  well_formed = λ at is. absurd (none_in_empty at is);
  below_fill = λ at is. absurd (none_in_empty at is);
  apart = λ a b is_a is_b below. absurd (none_in_empty a is_a);
}

-- after a write callers see where objects are
pub new_laid_out : {d : List ℕ} {fill : ℕ} {r : Contents} → IsRead d fill r → IsLaidOut (contents_of d fill)
new_laid_out read = subst IsLaidOut (sym read.view) (laid_out read)

-- the region after the cells of an object were changed, and it still is an object of its length
pub rewritten_region : {c : List ℕ} {fill : ℕ} {r : Contents} → IsRead c fill r
    → (d : List ℕ) (at : ℕ) (o : Object)
    → IsHeld c fill r at → IsRewrite c d at → IsBody d at → object_in d at ≡ o
    → IsRead d fill (with_object r at o)
rewritten_region {fill = fill} {r = r} read d at o h rewrite new e =
    let P : Object → Type 0 = λ x. IsRead d fill (with_object r at x) in
    subst P e (changed_region read d at (Some (object_in d at)) (map.insert r.objects at (object_in d at)) h
    rewrite (as_body new) (λ q. map.get-insert nat_cmp_total r.objects at (object_in d at) q))
