-- Lemmas on the writes into a region's cells: what callers see after each.
use Rattle.hd_cells.proofs.Basics.{Bool, CELLS, Contents, FIELDS, HEADER, HoldsObject, IsBody, IsCleared, IsGap, IsLaid, IsLaidOut, IsObject, IsTiled, IsWhole, List, NONE, None, Object, PARTS, REGISTERED, [], ap, arith, cases_eq, cell, cond, contents_of, count_at, drop, empty_region, ended, ext_get_or, extent_at, false, fields_at, get_or, get_or-drop, get_or-replicate, get_or-set_other, get_or-set_same, get_or-take, inl, inr, le-leb, leb, length, length-drop, length-replicate, length-set, length-take, lt-leb, nat_cmp, nat_cmp_total, new_object, object_at, objects_of, refl, replicate, set, size_of, subst, sym, take, true, with_field, with_object, with_put, with_registered, with_value, without_object, ℕ, ◌%◌, ◌++◌, ◌+◌, ◌<◌, ◌^◌, ◌∙◌, ◌∷◌, ◌≡◌, ◌≢◌, ◌≤◌}
use Rattle.hd_cells.specs.Cells.{object_in}
use Rattle.hd_cells.proofs.RegionTiles.{extent_at-body, extent_at-gap, same_fields, longer_tiling, none_beyond, as_gap}
use Rattle.hd_cells.proofs.Contents.{laid_region, laid_contents, get-objects, held, IsRead, changed_region, rewritten_region, empty_laid_out}
use Rattle.hd_cells.proofs.ObjectStarts.{empty_indexed, whole}
use Rattle.std.specs.FinMap as map

-- the fields and the registration that the second cell of an object encodes
shape_parts : (n : ℕ) (on : Bool) (s : ℕ) → n < REGISTERED → s ≡ cond on (n + REGISTERED) n
    → (s % REGISTERED ≡ n) × (s < 512)
    × (leb REGISTERED s ≡ on)
shape_parts n true s few e = (omega (arith, e), omega (arith, e), le-leb REGISTERED s (omega (arith, e)))
shape_parts n false s few e = (omega (arith, e), omega (arith, e), lt-leb REGISTERED s (omega (arith, e)))

-- a write to one cell leaves each other cell
other_cells : (c : List ℕ) (j v k : ℕ) → (k ≡ j → ⊥) → cell (set c j v) k ≡ cell c k
other_cells c j v k ne = get_or-set_other c j k v 0 ne

module _ {c : List ℕ} {fill : ℕ} {r : Contents} (read : IsRead c fill r) (at : ℕ) (is : IsObject r at) where
  -- a write after the identity of an object, which stays an object of its length
  one_cell_body : (j v : ℕ) → at < j → j < CELLS → cell (set c j v) (at + 1) < 512
      → count_at (set c j v) at ≡ count_at c at → (at + HEADER ≤ j → v < 2 ^ 32) → IsBody (set c j v) at
  one_cell_body j v low inside shaped counts fits =
      let b = (held read at is).is_body in
      let len = read.len in
      record {
        identified = λ e. b.identified (sym (other_cells c j v at (λ e. omega (arith, e))) ∙ e);
        shaped = shaped;
        few_fields = rw counts b.few_fields;
        addresses = λ i below. elim (cases_eq (at + HEADER + i) j) [
          | inl same ↦
              let P : ℕ → Type 0 = λ k. cell (set c j v) k < 2 ^ 32 in
              let written : cell (set c j v) j ≡ v = get_or-set_same c j v 0 (omega arith) in
              let value : v < 2 ^ 32 = fits (omega arith) in
              subst P (sym same) (rw written value)
          | inr other ↦
              let kept : cell (set c j v) (at + HEADER + i) ≡ cell c (at + HEADER + i) =
              other_cells c j v (at + HEADER + i) other in
              rw kept (b.addresses i (omega arith))
        ];
      }

  pub one_cell_written : (j v : ℕ) (o : Object) → at < j → j < at + (count_at c at + HEADER)
      → cell (set c j v) (at + 1) < 512 → count_at (set c j v) at ≡ count_at c at
      → (at + HEADER ≤ j → v < 2 ^ 32)
      → object_in (set c j v) at ≡ o → IsRead (set c j v) fill (with_object r at o)
  one_cell_written j v o low high shaped counts fits e =
      let h = held read at is in
      let reach = h.reach in
      let end = h.high in
      let within = h.within in
      let len = read.len in
      let new = one_cell_body j v low (omega arith) shaped counts fits in
      let new_reach = extent_at-body new in
      rewritten_region read (set c j v) at o h
      (record {
        lengths = length-set c j v;
        before = λ k below. other_cells c j v k (λ e. omega (arith, e));
        beyond = λ k past. other_cells c j v k (λ e. omega (arith, e));
        reach = omega arith;
      })
      new e

  -- the value
  pub value_written : (v : ℕ) → IsRead (set c (at + 2) v) fill
      (with_object r at (with_value (object_at r at) v))
  unfolding object_in
  value_written v =
      let h = held read at is in
      let end = h.high in
      let within = h.within in
      let len = read.len in
      let first = other_cells c (at + 2) v at (λ e. omega (arith, e)) in
      let shape = other_cells c (at + 2) v (at + 1) (λ e. omega (arith, e)) in
      let counts : count_at (set c (at + 2) v) at ≡ count_at c at = ap (λ (x : ℕ). x % REGISTERED) shape in
      let b = h.is_body in
      let identities : cell (set c (at + 2) v) at ≡ (object_at r at).identity = first ∙ sym h.identity in
      let fields : take (count_at (set c (at + 2) v) at) (drop (at + HEADER) (set c (at + 2) v)) ≡ fields_at r
      at =
      same_fields c (set c (at + 2) v) at (count_at c at) (count_at (set c (at + 2) v) at)
      (length-set c (at + 2) v) counts (λ k low high. other_cells c (at + 2) v k (λ e. omega (arith, e)))
      ∙ sym h.fields in
      let values : cell (set c (at + 2) v) (at + 2) ≡ v = get_or-set_same c (at + 2) v 0 (omega arith) in
      let flags : leb REGISTERED (cell (set c (at + 2) v) (at + 1)) ≡ (object_at r at).registered =
      ap (leb REGISTERED) shape ∙ sym h.registered in
      one_cell_written (at + 2) v (with_value (object_at r at) v) (omega arith) (omega arith)
      (rw shape b.shaped) counts (λ low. absurd (omega arith))
      (λ i. record { identity = identities i; fields = fields i; value = values i; registered = flags i })

  -- the registration
  pub registration_written : (on : Bool) (s : ℕ) → s ≡ cond on (count_at c at + CELLS) (count_at c at)
      → IsRead (set c (at + 1) s) fill (with_object r at (with_registered (object_at r at) on))
  unfolding object_in
  registration_written on s is_shape =
      let h = held read at is in
      let end = h.high in
      let within = h.within in
      let len = read.len in
      let b = h.is_body in
      let few = b.few_fields in
      let parts = shape_parts (count_at c at) on s (omega arith) is_shape in
      let first = other_cells c (at + 1) s at (λ e. omega (arith, e)) in
      let shape : cell (set c (at + 1) s) (at + 1) ≡ s = get_or-set_same c (at + 1) s 0 (omega arith) in
      let third = other_cells c (at + 1) s (at + 2) (λ e. omega (arith, e)) in
      let counts : count_at (set c (at + 1) s) at ≡ count_at c at =
      ap (λ (x : ℕ). x % REGISTERED) shape ∙ parts.0 in
      let identities : cell (set c (at + 1) s) at ≡ (object_at r at).identity = first ∙ sym h.identity in
      let fields : take (count_at (set c (at + 1) s) at) (drop (at + HEADER) (set c (at + 1) s)) ≡ fields_at r
      at =
      same_fields c (set c (at + 1) s) at (count_at c at) (count_at (set c (at + 1) s) at)
      (length-set c (at + 1) s) counts (λ k low high. other_cells c (at + 1) s k (λ e. omega (arith, e)))
      ∙ sym h.fields in
      let values : cell (set c (at + 1) s) (at + 2) ≡ (object_at r at).value = third ∙ sym h.value in
      let flags : leb REGISTERED (cell (set c (at + 1) s) (at + 1)) ≡ on = ap (leb REGISTERED) shape ∙ parts.2
      in
      one_cell_written (at + 1) s (with_registered (object_at r at) on) (omega arith) (omega arith)
      (rw shape parts.1) counts (λ low. absurd (omega arith))
      (λ i. record { identity = identities i; fields = fields i; value = values i; registered = flags i })

  -- the fields after a write to one of them
  fields_written : (i v : ℕ) → i < count_at c at → (m : ℕ) → m ≡ count_at c at
      → take m (drop (at + HEADER) (set c (at + HEADER + i) v)) ≡ set (fields_at r at) i v
  fields_written i v below m e =
      let h = held read at is in
      let end = h.high in
      let within = h.within in
      let len = read.len in
      let count = h.count in
      let d = set c (at + HEADER + i) v in
      let length_d : length d ≡ length c = length-set c (at + HEADER + i) v in
      let length_new = length-take m (drop (at + HEADER) d) in
      let length_rest = length-drop (at + HEADER) d in
      let length_set = length-set (fields_at r at) i v in
      ext_get_or 0 _ _ (omega arith) (λ k short.
      let inside : k < m = omega arith in
      let read : get_or (take m (drop (at + HEADER) d)) k 0 ≡ cell d (at + HEADER + k) =
      get_or-take m (drop (at + HEADER) d) k 0 inside ∙ get_or-drop (at + HEADER) d k 0 in
      elim (cases_eq k i) [
        | inl same ↦
            let P : ℕ → Type 0 = λ n. cell d (at + HEADER + n) ≡ get_or (set (fields_at r at) i v) n 0 in
            read ∙ subst P (sym same) (get_or-set_same c (at + HEADER + i) v 0 (omega arith)
            ∙ sym (get_or-set_same (fields_at r at) i v 0 (omega arith)))
        | inr other ↦
            read ∙ other_cells c (at + HEADER + i) v (at + HEADER + k) (λ e. other (omega (arith, e)))
            ∙ sym (h.field k (omega arith))
            ∙ sym (get_or-set_other (fields_at r at) i k v 0 other)
      ])

  -- a field
  pub field_written : (i v : ℕ) → i < length (fields_at r at) → v < 2 ^ 32
      → IsRead (set c (at + HEADER + i) v) fill (with_object r at (with_field (object_at r at) i v))
  unfolding object_in
  field_written i v below fits =
      let h = held read at is in
      let end = h.high in
      let within = h.within in
      let len = read.len in
      let count = h.count in
      let b = h.is_body in
      let d = set c (at + HEADER + i) v in
      let first = other_cells c (at + HEADER + i) v at (λ e. omega (arith, e)) in
      let shape = other_cells c (at + HEADER + i) v (at + 1) (λ e. omega (arith, e)) in
      let third = other_cells c (at + HEADER + i) v (at + 2) (λ e. omega (arith, e)) in
      let counts : count_at d at ≡ count_at c at = ap (λ (x : ℕ). x % REGISTERED) shape in
      let identities : cell d at ≡ (object_at r at).identity = first ∙ sym h.identity in
      let fields : take (count_at d at) (drop (at + HEADER) d) ≡ set (fields_at r at) i v =
      fields_written i v (omega arith) (count_at d at) counts in
      let values : cell d (at + 2) ≡ (object_at r at).value = third ∙ sym h.value in
      let flags : leb REGISTERED (cell d (at + 1)) ≡ (object_at r at).registered = ap (leb REGISTERED) shape
      ∙ sym h.registered in
      one_cell_written (at + HEADER + i) v (with_field (object_at r at) i v) (omega arith) (omega arith)
      (rw shape b.shaped) counts (λ low. fits)
      (λ j. record { identity = identities j; fields = fields j; value = values j; registered = flags j })

-- a region from which all is taken out, whatever its cells have
reset_laid : (c : List ℕ) → IsLaid c 0 []
reset_laid c = record { tiled = ended; within = omega arith }

pub reset_seen : (c : List ℕ) → contents_of c 0 ≡ empty_region
reset_seen c = laid_contents (reset_laid c) map.empty refl

pub reset_laid_out : (c : List ℕ) → IsLaidOut (contents_of c 0)
reset_laid_out c = subst IsLaidOut (sym (reset_seen c)) empty_laid_out

pub reset_whole : (c starts : List ℕ) {stale : ℕ} → ((k : ℕ) → k < PARTS → get_or starts k 0 ≡ NONE)
    → IsCleared c 0 stale
    → IsWhole c 0 starts stale
reset_whole c starts none cleared =
    whole (laid_region (reset_laid c)) (reset_seen c) (empty_indexed starts none) cleared

-- the cells after an object without references was put at the allocation pointer
pub record IsNew (c d : List ℕ) (fill id n s : ℕ) : Type 0 where
  pub lengths : length d ≡ length c
  pub before : (k : ℕ) → k < fill → cell d k ≡ cell c k
  pub first : cell d fill ≡ id
  pub shape : cell d (fill + 1) ≡ s
  pub nulls : (k : ℕ) → fill + 2 ≤ k → k < fill + n + HEADER → cell d k ≡ 0

-- two cells are written where all are 0
pub cells_new : (c e : List ℕ) (fill id n s : ℕ) → fill + n + HEADER ≤ CELLS → length c ≡ CELLS
    → length e ≡ CELLS → ((k : ℕ) → k < fill → cell e k ≡ cell c k)
    → ((k : ℕ) → fill ≤ k → k < CELLS → cell e k ≡ 0)
    → IsNew c (set (set e fill id) (fill + 1) s) fill id n s
cells_new c e fill id n s room long lengths kept zeros =
    let one = set e fill id in
    let first = length-set e fill id in
    let second = length-set one (fill + 1) s in
    record {
      lengths = second ∙ first ∙ lengths ∙ sym long;
      before = λ k below. other_cells one (fill + 1) s k (λ e. omega (arith, e, below))
          ∙ other_cells e fill id k (λ e. omega (arith, e, below)) ∙ kept k below;
      first = other_cells one (fill + 1) s fill (λ e. omega (arith, e))
          ∙ get_or-set_same e fill id 0 (omega (arith, room, lengths));
      shape = get_or-set_same one (fill + 1) s 0 (omega (arith, room, first, lengths));
      nulls = λ k low high. other_cells one (fill + 1) s k (λ e. omega (arith, e, low))
          ∙ other_cells e fill id k (λ e. omega (arith, e, low))
          ∙ zeros k (omega (arith, low)) (omega (arith, high, room));
    }

-- an object is stored from the allocation pointer on, and all before is as it was
pub record IsPutAt (c d : List ℕ) (fill : ℕ) (o : Object) : Type 0 where
  pub lengths : length d ≡ length c
  pub before : (k : ℕ) → k < fill → cell d k ≡ cell c k
  pub is_body : IsBody d fill
  pub count : count_at d fill ≡ length o.fields
  pub is : object_in d fill ≡ o

-- a new object
pub new_put : {c d : List ℕ} {fill id n s : ℕ} (on : Bool) → length c ≡ CELLS → id ≢ 0 → n ≤ FIELDS
    → fill + n + HEADER ≤ CELLS → s ≡ cond on (n + REGISTERED) n → IsNew c d fill id n s
    → IsPutAt c d fill (new_object id n on)
unfolding object_in
new_put {c} {d} {fill} {id} {n} {s} on long identified few room is_shape put =
    let parts = shape_parts n on s (omega arith) is_shape in
    let count : count_at d fill ≡ n = ap (λ (x : ℕ). x % REGISTERED) put.shape ∙ parts.0 in
    let zero_here : ℕ = 0 in
    let fields : take (count_at d fill) (drop (fill + HEADER) d) ≡ replicate n zero_here =
    let lengths : length (take (count_at d fill) (drop (fill + HEADER) d)) ≡ length (replicate n zero_here)
    =
    (let known = length-take (count_at d fill) (drop (fill + HEADER) d) in
    let also = length-replicate n zero_here in
    omega (arith, known, length-drop (fill + HEADER) d, also, put.lengths, long, count, room)) in
    ext_get_or 0 _ _ lengths (λ i short.
    let inside : i < n = omega (arith, short, length-take (count_at d fill) (drop (fill + HEADER) d), count)
    in
    get_or-take (count_at d fill) (drop (fill + HEADER) d) i 0 (omega (arith, inside, count))
    ∙ get_or-drop (fill + HEADER) d i 0 ∙ put.nulls (fill + HEADER + i) (omega arith)
    (omega (arith, inside))
    ∙ sym (get_or-replicate n i zero_here 0 inside)) in
    let values = put.nulls (fill + 2) (omega arith) (omega arith) in
    let flags : leb REGISTERED (cell d (fill + 1)) ≡ on = ap (leb REGISTERED) put.shape ∙ parts.2 in
    record {
      lengths = put.lengths;
      before = put.before;
      is_body = record {
        identified = λ e. identified (sym put.first ∙ e);
        shaped = rw put.shape parts.1;
        few_fields = rw count few;
        addresses = λ i below. omega (
          arith,
          put.nulls (fill + HEADER + i) (omega arith) (omega (arith, below, count)),
        );
      };
      count = count ∙ sym (length-replicate n zero_here);
      is = λ i. record { identity = put.first i; fields = fields i; value = values i; registered = flags i };
    }

-- a copy of an object
pub copy_put : {c d xs : List ℕ} {fill : ℕ} {o : Object} → length c ≡ CELLS → length d ≡ CELLS
    → HoldsObject xs o → fill + size_of o ≤ CELLS
    → ((k : ℕ) → fill + k < fill + size_of o → cell d (fill + k) ≡ cell xs k)
    → ((k : ℕ) → k < fill → cell d k ≡ cell c k) → IsPutAt c d fill o
unfolding object_in
copy_put {c} {d} {xs} {fill} {o} long lengths held room copied kept =
    let first : cell d fill ≡ cell xs 0 = ap (cell d) (omega arith) ∙ copied 0 (omega arith) in
    let shape = copied 1 (omega arith) in
    let count : count_at d fill ≡ length o.fields = ap (λ (x : ℕ). x % REGISTERED) shape ∙ held.count in
    let field : (i : ℕ) → i < length o.fields → cell d (fill + HEADER + i) ≡ cell xs (HEADER + i) =
    λ i below. ap (cell d) (omega arith) ∙ copied (HEADER + i) (omega arith) in
    let fields : take (count_at d fill) (drop (fill + HEADER) d) ≡ o.fields =
    let lengths : length (take (count_at d fill) (drop (fill + HEADER) d)) ≡ length o.fields =
    (let known = length-take (count_at d fill) (drop (fill + HEADER) d) in
    omega (arith, known, length-drop (fill + HEADER) d, lengths, count, room)) in
    ext_get_or 0 _ _ lengths (λ i short.
    let inside : i < length o.fields = omega (arith, short, lengths) in
    get_or-take (count_at d fill) (drop (fill + HEADER) d) i 0 (omega (arith, inside, count))
    ∙ get_or-drop (fill + HEADER) d i 0 ∙ field i inside ∙ held.field i inside) in
    record {
      lengths = lengths ∙ sym long;
      before = kept;
      is_body = record {
        identified = λ e. held.identified (sym held.identity ∙ sym first ∙ e);
        shaped = rw shape held.shaped;
        few_fields = rw count held.few_fields;
        addresses = λ i below. omega (
          arith,
          field i (omega (arith, below, count)),
          held.addresses i (omega (arith, below, count)),
        );
      };
      count = count;
      is = λ i. record {
        identity = (first ∙ held.identity) i;
        fields = fields i;
        value = (copied 2 (omega arith) ∙ held.value) i;
        registered = (ap (leb REGISTERED) shape ∙ held.registered) i;
      };
    }

-- an object put at the allocation pointer
module _ {c : List ℕ} {fill : ℕ} {r : Contents} (read : IsRead c fill r) where
  put_at_fill : {d : List ℕ} {o : Object} → fill + size_of o ≤ CELLS → IsPutAt c d fill o
      → IsRead d (fill + size_of o) (with_put (contents_of c fill) o)
  put_at_fill {d} {o} room put =
      let laid = read.region in
      let reach = extent_at-body put.is_body in
      let count = put.count in
      let longer = longer_tiling laid.tiled d put.lengths (λ k low below. put.before k below) put.is_body in
      let end : fill + extent_at d fill ≡ fill + size_of o = omega (arith, reach, count) in
      let P : ℕ → Type 0 = λ m. IsTiled d m 0 (objects_of c fill ++ (fill, object_in d fill) ∷ []) in
      let now : IsLaid d (fill + size_of o) (objects_of c fill ++ (fill, object_in d fill) ∷ []) =
      record { tiled = subst P end longer; within = room } in
      let absent : map.find nat_cmp fill (objects_of c fill) ≡ None =
      none_beyond laid.tiled fill (omega arith) in
      let maps : map.from_entries (objects_of c fill ++ (fill, object_in d fill) ∷ []) ≡ map.insert
      (contents_of c fill).objects fill o =
      map.from_entries_push nat_cmp_total map.nat_cmp-IsAntisymmetric (objects_of c fill) fill
      (object_in d fill) absent ∙ ap (map.insert (contents_of c fill).objects fill) put.is in
      record {
        len = put.lengths ∙ read.len;
        region = laid_region now;
        view = laid_contents now (map.insert (contents_of c fill).objects fill o) maps;
      }

  pub object_put : {d : List ℕ} {o : Object} → r.fill + size_of o ≤ CELLS → IsPutAt c d fill o
      → IsRead d (fill + size_of o) (with_put r o)
  object_put {d} {o} room put =
      let P : Contents → Type 0 = λ x. x.fill + size_of o ≤ CELLS → IsRead d (fill + size_of o) (with_put x o) in
      subst P read.view (λ fits. put_at_fill fits put) room

  -- no object is where the next one is put
  pub get-fill : map.get r.objects fill ≡ None
  get-fill = ap (λ (x : Contents). map.get x.objects fill) (sym read.view) ∙ get-objects c fill fill
      ∙ none_beyond read.region.tiled fill (omega arith)

-- an object becomes a gap
module _ {c : List ℕ} {fill : ℕ} {r : Contents} (read : IsRead c fill r) (at : ℕ) (is : IsObject r at) where
  pub object_removed : IsRead (set (set c at 0) (at + 1) (count_at c at + HEADER)) fill (without_object r at)
  object_removed =
      let h = held read at is in
      let high = h.high in
      let within = h.within in
      let len = read.len in
      let fills : r.fill ≡ fill = ap (λ (x : Contents). x.fill) (sym read.view) in
      let d = set (set c at 0) (at + 1) (count_at c at + HEADER) in
      let lengths : length d ≡ length c = length-set (set c at 0) (at + 1) (count_at c at + HEADER)
      ∙ length-set c at 0 in
      let length_first = length-set c at 0 in
      let first : cell d at ≡ 0 = other_cells (set c at 0) (at + 1) (count_at c at + HEADER) at
      (λ e. omega (arith, e)) ∙ get_or-set_same c at 0 0 (omega arith) in
      let second : cell d (at + 1) ≡ count_at c at + HEADER = get_or-set_same (set c at 0) (at + 1)
      (count_at c at + HEADER) 0 (omega arith) in
      let gap : IsGap d at = record { unnamed = first; long = omega arith } in
      let reach = extent_at-gap gap in
      let old_reach = h.reach in
      let others : (k : ℕ) → (k ≡ at → ⊥) → (k ≡ at + 1 → ⊥) → cell d k ≡ cell c k = λ k one two. other_cells
      (set c at 0) (at + 1) (count_at c at + HEADER) k two ∙ other_cells c at 0 k one in
      changed_region read d at None (map.remove r.objects at) h
      (record {
        lengths = lengths;
        before = λ k below. others k (λ e. omega (arith, e)) (λ e. omega (arith, e));
        beyond = λ k past. others k (λ e. omega (arith, e)) (λ e. omega (arith, e));
        reach = omega arith;
      })
      (as_gap gap) (λ q. map.get-remove nat_cmp_total r.objects at q)
