-- Lemmas on the cells of a region: what one object or gap takes, and the tiling by them.
use Rattle.hd_cells.proofs.Basics.{HEADER, IsBody, IsGap, IsTiled, List, None, Object, Option, REGISTERED, Some, [], ap, ap₂, arith, body, cases_eq, cell, cond, cond-false, cond-true, count_at, drop, ended, eq-eqb, eq_by_cmp, eqb, ext_get_or, find, gap, get_or-drop, get_or-take, inl, inr, le-leb, leb, length, length-drop, length-take, lt-leb, nat_cmp, ne_eqb, none-some, refl, same_Some, subst, suc, sym, take, zero, ℕ, ◌%◌, ◌++◌, ◌+◌, ◌<◌, ◌∙◌, ◌∷◌, ◌≡◌, ◌≤◌}
use Rattle.hd_cells.specs.Cells.{object_in, extent_at, objects_from}
use Rattle.hd_cells.proofs.OffsetLookup.{find_here, find_beyond, asked_twice, either_order, tied_same, tied, untied}

-- the cells from one offset up to another are as they were
abbrev pub AgreeWithin : List ℕ → List ℕ → ℕ → ℕ → Type 0
AgreeWithin c d from to = (k : ℕ) → from ≤ k → k < to → cell d k ≡ cell c k

-- the number of cells of a gap, and of an object
pub extent_at-gap : {c : List ℕ} {at : ℕ} → IsGap c at → extent_at c at ≡ cell c (at + 1)
unfolding extent_at
extent_at-gap {c} {at} g = cond-true (eqb (cell c at) 0) _ _ (eq-eqb (cell c at) 0 g.unnamed)

pub extent_at-body : {c : List ℕ} {at : ℕ} → IsBody c at → extent_at c at ≡ count_at c at + HEADER
unfolding extent_at
extent_at-body {c} {at} b = cond-false (eqb (cell c at) 0) _ _ (ne_eqb (cell c at) 0 b.identified)

-- the first two cells determine its number of cells
pub same_extent : (c d : List ℕ) (at : ℕ) → cell d at ≡ cell c at → cell d (at + 1) ≡ cell c (at + 1)
    → extent_at d at ≡ extent_at c at
unfolding extent_at
same_extent c d at e f = ap₂ (λ (x y : ℕ). cond (eqb x 0) y (y % REGISTERED + HEADER)) e f

-- the fields of an object are as they were where their number and their cells are
pub same_fields : (c d : List ℕ) (at n m : ℕ) → length d ≡ length c → m ≡ n
    → AgreeWithin c d (at + HEADER) (at + HEADER + n) → take m (drop (at + HEADER) d) ≡ take n
    (drop (at + HEADER) c)
same_fields c d at n m len e agree =
    let lengths : length (take m (drop (at + HEADER) d)) ≡ length (take n (drop (at + HEADER) c)) =
    (let known = length-take m (drop (at + HEADER) d) in
    let also = length-take n (drop (at + HEADER) c) in
    omega (arith, known, also, length-drop (at + HEADER) d, length-drop (at + HEADER) c)) in
    ext_get_or 0 _ _ lengths (λ i below.
    let short : length (take m (drop (at + HEADER) d)) ≤ m = omega
    (arith, length-take m (drop (at + HEADER) d)) in
    get_or-take m (drop (at + HEADER) d) i 0 (omega arith) ∙ get_or-drop (at + HEADER) d i 0
    ∙ agree (at + HEADER + i) (omega arith) (omega arith)
    ∙ sym (get_or-take n (drop (at + HEADER) c) i 0 (omega arith) ∙ get_or-drop (at + HEADER) c i 0))

-- an object is as it was where its cells are
pub same_object : (c d : List ℕ) (at : ℕ) → length d ≡ length c
    → AgreeWithin c d at (at + (count_at c at + HEADER)) → object_in d at ≡ object_in c at
unfolding object_in
same_object c d at len agree =
    let shape : cell d (at + 1) ≡ cell c (at + 1) = agree (at + 1) (omega arith) (omega arith) in
    let first : cell d at ≡ cell c at = agree at (omega arith) (omega arith) in
    let third : cell d (at + 2) ≡ cell c (at + 2) = agree (at + 2) (omega arith) (omega arith) in
    let fields : take (count_at d at) (drop (at + HEADER) d) ≡ take (count_at c at) (drop (at + HEADER) c) =
    same_fields c d at (count_at c at) (count_at d at) len (ap (λ (x : ℕ). x % REGISTERED) shape)
    (λ k low high. agree k (omega arith) (omega arith)) in
    λ i. record {
      identity = first i;
      fields = fields i;
      value = third i;
      registered = leb REGISTERED
          (shape i);
    }

-- an object stays one where its cells are as they were
pub same_body : {c : List ℕ} {at : ℕ} → IsBody c at → (d : List ℕ)
    → AgreeWithin c d at (at + (count_at c at + HEADER)) → IsBody d at
same_body {c} {at} b d agree =
    let shape : cell d (at + 1) ≡ cell c (at + 1) = agree (at + 1) (omega arith) (omega arith) in
    let first : cell d at ≡ cell c at = agree at (omega arith) (omega arith) in
    let counts : count_at d at ≡ count_at c at = ap (λ (x : ℕ). x % REGISTERED) shape in
    record {
      identified = λ e. b.identified (sym first ∙ e);
      shaped = rw shape b.shaped;
      few_fields = rw counts b.few_fields;
      addresses = λ i below.
          let same : cell d (at + HEADER + i) ≡ cell c (at + HEADER + i) =
          agree (at + HEADER + i) (omega arith) (omega arith) in
          rw same (b.addresses i (omega arith));
    }

-- a tiling goes upwards
pub tiled_upwards : {c : List ℕ} {stop at : ℕ} {os : List (ℕ × Object)} → IsTiled c stop at os → at ≤ stop
tiled_upwards ended = omega arith
tiled_upwards (gap g t) = let beyond = tiled_upwards t in omega arith
tiled_upwards (body b t) = let beyond = tiled_upwards t in omega arith

-- no object of a tiling is before it
pub none_before : {c : List ℕ} {stop at : ℕ} {os : List (ℕ × Object)} → IsTiled c stop at os → (q : ℕ)
    → q < at → find nat_cmp q os ≡ None
none_before ended q below = refl
none_before (gap g t) q below = none_before t q (omega arith)
none_before {at = at} {os = (k, o) ∷ os} (body b t) q below =
    find_beyond q at o os (λ e. omega (arith, e)) ∙ none_before t q (omega arith)

-- what is known of the object o that is found at an offset
pub record IsFound (c : List ℕ) (from stop at : ℕ) (o : Object) : Type 0 where
  pub low : from ≤ at
  pub is_body : IsBody c at
  pub is : o ≡ object_in c at
  pub high : at + extent_at c at ≤ stop

pub found : {c : List ℕ} {stop from : ℕ} {os : List (ℕ × Object)} → IsTiled c stop from os
    → (at : ℕ) (o : Object) → find nat_cmp at os ≡ Some o → IsFound c from stop at o
found ended at o e = absurd (none-some o e)
found (gap g t) at o e = let r = found t at o e in record {
  low = omega arith;
  is_body = r.is_body;
  is = r.is;
  high = r.high;
}
found {c} {stop} {from} {os = (k, x) ∷ os} (body b t) at o e = elim (cases_eq at from) [
  | inl same ↦
      let is : o ≡ object_in c from =
      same_Some o (object_in c from) (sym e ∙ find_here at from (object_in c from) os same) in
      let P : ℕ → Type 0 = λ n. IsFound c from stop n o in
      subst P (sym same) (record { low = omega arith; is_body = b; is = is; high = tiled_upwards t })
  | inr other ↦
      let r = found t at o (sym (find_beyond at from (object_in c from) os other) ∙ e) in
      record { low = omega arith; is_body = r.is_body; is = r.is; high = r.high }
]

-- no object is where a tiling ends, or after
pub none_beyond : {c : List ℕ} {stop from : ℕ} {os : List (ℕ × Object)} → IsTiled c stop from os → (q : ℕ)
    → stop ≤ q → find nat_cmp q os ≡ None
none_beyond ended q past = refl
none_beyond (gap g t) q past = none_beyond t q past
none_beyond {from = from} {os = (k, o) ∷ os} (body b t) q past =
    let up = tiled_upwards t in
    let reach = extent_at-body b in
    find_beyond q from o os (λ e. omega (arith, e)) ∙ none_beyond t q past

-- an object ends before the next one begins
pub found_apart : {c : List ℕ} {stop from : ℕ} {os : List (ℕ × Object)} → IsTiled c stop from os
    → (a b : ℕ) (x y : Object) → find nat_cmp a os ≡ Some x → find nat_cmp b os ≡ Some y → a < b
    → a + extent_at c a ≤ b
found_apart ended a b x y e f below = absurd (none-some x e)
found_apart (gap g t) a b x y e f below = found_apart t a b x y e f below
found_apart {c} {stop} {from} {os = (k, o) ∷ os} (body body_is t) a b x y e f below =
    let later : find nat_cmp b os ≡ Some y =
    elim (cases_eq b from) [
      | inl same ↦ absurd (let r = found (body body_is t) a x e in omega (arith, r.low))
      | inr other ↦ sym (find_beyond b from (object_in c from) os other) ∙ f
    ] in
    let r = found t b y later in
    elim (cases_eq a from) [
      | inl same ↦ let P : ℕ → Type 0 = λ n. n + extent_at c n ≤ b in subst P (sym same) r.low
      | inr other ↦ found_apart t a b x y (sym (find_beyond a from (object_in c from) os other)
          ∙ e) later below
    ]

-- a tiling whose cells are as they were stays as it is
pub same_tiling : {c : List ℕ} {stop at : ℕ} {os : List (ℕ × Object)} → IsTiled c stop at os → (d : List ℕ)
    → length d ≡ length c → AgreeWithin c d at stop → IsTiled d stop at os
same_tiling ended d len agree = ended
same_tiling {c} {stop} {at} {os} (gap g t) d len agree =
    let up = tiled_upwards t in
    let reach = extent_at-gap g in
    let long = g.long in
    let first : cell d at ≡ cell c at = agree at (omega arith) (omega arith) in
    let second : cell d (at + 1) ≡ cell c (at + 1) = agree (at + 1) (omega arith) (omega arith) in
    let beyond = same_tiling t d len (λ k low high. agree k (omega arith) high) in
    let P : ℕ → Type 0 = λ n. IsTiled d stop (at + n) os in
    gap (record { unnamed = first ∙ g.unnamed; long = omega arith })
    (subst P (sym (same_extent c d at first second)) beyond)
same_tiling {c} {stop} {at} {os = (k, o) ∷ os} (body b t) d len agree =
    let up = tiled_upwards t in
    let reach = extent_at-body b in
    let here : AgreeWithin c d at (at + (count_at c at + HEADER)) = λ k low high. agree k low (omega arith) in
    let beyond = same_tiling t d len (λ k low high. agree k (omega arith) high) in
    let P : ℕ → Type 0 = λ n. IsTiled d stop (at + n) os in
    let Q : Object → Type 0 = λ x. IsTiled d stop at ((at, x) ∷ os) in
    subst Q (same_object c d at len here)
    (body (same_body b d here)
    (subst P (sym (same_extent c d at (here at (omega arith) (omega arith))
    (here (at + 1) (omega arith) (omega arith)))) beyond))

-- an object put where a tiling ends makes it longer
pub longer_tiling : {c : List ℕ} {stop at : ℕ} {os : List (ℕ × Object)} → IsTiled c stop at os → (d : List ℕ)
    → length d ≡ length c → AgreeWithin c d at stop → IsBody d stop → IsTiled d (stop + extent_at d stop) at
    (os ++ (stop, object_in d stop) ∷ [])
longer_tiling ended d len agree new = body new ended
longer_tiling {c} {stop} {at} {os} (gap g t) d len agree new =
    let up = tiled_upwards t in
    let reach = extent_at-gap g in
    let long = g.long in
    let first : cell d at ≡ cell c at = agree at (omega arith) (omega arith) in
    let second : cell d (at + 1) ≡ cell c (at + 1) = agree (at + 1) (omega arith) (omega arith) in
    let beyond = longer_tiling t d len (λ k low high. agree k (omega arith) high) new in
    let P : ℕ → Type 0 = λ n. IsTiled d (stop + extent_at d stop) (at + n)
    (os ++ (stop, object_in d stop) ∷ []) in
    gap (record { unnamed = first ∙ g.unnamed; long = omega arith })
    (subst P (sym (same_extent c d at first second)) beyond)
longer_tiling {c} {stop} {at} {os = (k, o) ∷ os} (body b t) d len agree new =
    let up = tiled_upwards t in
    let reach = extent_at-body b in
    let here : AgreeWithin c d at (at + (count_at c at + HEADER)) = λ k low high. agree k low (omega arith) in
    let beyond = longer_tiling t d len (λ k low high. agree k (omega arith) high) new in
    let P : ℕ → Type 0 = λ n. IsTiled d (stop + extent_at d stop) (at + n)
    (os ++ (stop, object_in d stop) ∷ []) in
    let Q : Object → Type 0 = λ x. IsTiled d (stop + extent_at d stop) at
    ((at, x) ∷ (os ++ (stop, object_in d stop) ∷ [])) in
    subst Q (same_object c d at len here)
    (body (same_body b d here)
    (subst P (sym (same_extent c d at (here at (omega arith) (omega arith))
    (here (at + 1) (omega arith) (omega arith)))) beyond))

-- what begins at an offset now: a gap, or an object
pub data IsTile (d : List ℕ) (at : ℕ) : Option Object → Type 0 where
  as_gap : IsGap d at → IsTile d at None
  as_body : IsBody d at → IsTile d at (Some (object_in d at))

-- the tiling after a change of what begins at an offset, and what is found in it
pub record IsChanged (d : List ℕ) (stop from : ℕ) (os : List (ℕ × Object)) (at : ℕ)
    (w : Option Object) : Type 0 where
  pub after : List (ℕ × Object)
  pub tiled : IsTiled d stop from after
  pub finds : (q : ℕ) → find nat_cmp q after ≡ cond (eq_by_cmp nat_cmp q at) w (find nat_cmp q os)

changed_here : {c : List ℕ} {stop at : ℕ} {os : List (ℕ × Object)} (o : Object)
    → IsTiled c stop (at + extent_at c at) os → (d : List ℕ) (w : Option Object) → IsTile d at w
    → 3 ≤ extent_at c at → IsTiled d stop (at + extent_at d at) os → IsChanged d stop at ((at, o) ∷ os) at w
changed_here {at = at} {os = os} o old d w (as_gap g) reach t = record {
  after = os;
  tiled = gap g t;
  finds = λ q. elim (cases_eq q at) [
    | inl same ↦ none_before old q (omega arith)
        ∙ sym (cond-true (eq_by_cmp nat_cmp q at) _ _ (tied q at same))
    | inr other ↦ sym (cond-false (eq_by_cmp nat_cmp q at) _ _ (untied q at other)
        ∙ find_beyond q at o os other)
  ];
}
changed_here {at = at} {os = os} o old d w (as_body b) reach t = record {
  after = (at, object_in d at) ∷ os;
  tiled = body b t;
  finds = λ q. asked_twice (eq_by_cmp nat_cmp q at) (Some (object_in d at)) (Some o) (find nat_cmp q os);
}

-- what begins at the offset of an object is changed, within the cells of that object
pub changed_tiling : {c : List ℕ} {stop from : ℕ} {os : List (ℕ × Object)} → IsTiled c stop from os
    → (at : ℕ) (o : Object) → find nat_cmp at os ≡ Some o → (d : List ℕ) (w : Option Object) → IsTile d at w
    → length d ≡ length c → AgreeWithin c d from at → AgreeWithin c d (at + extent_at c at) stop
    → extent_at d at ≡ extent_at c at → IsChanged d stop from os at w
changed_tiling ended at o e d w tile len before beyond reach = absurd (none-some o e)
changed_tiling {c} {stop} {from} {os} (gap g t) at o e d w tile len before beyond reach =
    let r = found t at o e in
    let low = r.low in
    let here = extent_at-gap g in
    let long = g.long in
    let first : cell d from ≡ cell c from = before from (omega arith) (omega arith) in
    let second : cell d (from + 1) ≡ cell c (from + 1) = before (from + 1) (omega arith) (omega arith) in
    let rest = changed_tiling t at o e d w tile len (λ k low high. before k (omega arith) high) beyond
    reach in
    let P : ℕ → Type 0 = λ n. IsTiled d stop (from + n) rest.after in
    record {
      after = rest.after;
      tiled = gap (record { unnamed = first ∙ g.unnamed; long = omega arith })
          (subst P (sym (same_extent c d from first second)) rest.tiled);
      finds = rest.finds;
    }
changed_tiling {c} {stop} {from} {os = (k, x) ∷ os} (body b t) at o e d w tile len before beyond reach =
    let here = extent_at-body b in
    elim (cases_eq at from) [
      | inl same ↦
          let T : ℕ → Type 0 = λ n. IsTile d n w → AgreeWithin c d (n + extent_at c n) stop
          → extent_at d n ≡ extent_at c n → IsChanged d stop from ((from, object_in c from) ∷ os) n w in
          subst T (sym same)
          (λ tile beyond reach.
          let P : ℕ → Type 0 = λ n. IsTiled d stop (from + n) os in
          changed_here (object_in c from) t d w tile (omega arith)
          (subst P (sym reach) (same_tiling t d len beyond)))
          tile beyond reach
      | inr other ↦
          let later = sym (find_beyond at from (object_in c from) os other) ∙ e in
          let r = found t at o later in
          let low = r.low in
          let kept : AgreeWithin c d from (from + (count_at c from + HEADER)) = λ k low high. before k low
          (omega arith) in
          let rest = changed_tiling t at o later d w tile len (λ k low high. before k (omega arith) high)
          beyond reach in
          let P : ℕ → Type 0 = λ n. IsTiled d stop (from + n) rest.after in
          let Q : Object → Type 0 = λ x. IsTiled d stop from ((from, x) ∷ rest.after) in
          record {
            after = (from, object_in c from) ∷ rest.after;
            tiled = subst Q (same_object c d from len kept)
                (body (same_body b d kept)
                (subst P (sym (same_extent c d from (kept from (omega arith) (omega arith))
                (kept (from + 1) (omega arith) (omega arith)))) rest.tiled));
            finds = λ q.
                ap (λ (y : Option Object). cond (eq_by_cmp nat_cmp q from) (Some (object_in c from)) y)
                (rest.finds q)
                ∙ either_order (eq_by_cmp nat_cmp q from) (eq_by_cmp nat_cmp q at) (Some (object_in c from)) w
                (find nat_cmp q os) (λ f g. other (sym (tied_same q at g) ∙ tied_same q from f));
          }
    ]

-- the cells are read as they are tiled
pub tiling_read : {c : List ℕ} {stop at : ℕ} {os : List (ℕ × Object)} → IsTiled c stop at os → (n : ℕ)
    → stop ≤ at + n → objects_from n c stop at ≡ os
unfolding objects_from
tiling_read ended zero most = refl
tiling_read {stop = stop} ended (suc n) most = cond-true (leb stop stop) _ _ (le-leb stop stop (omega arith))
tiling_read (gap g t) zero most = absurd (omega (arith, tiled_upwards t, extent_at-gap g, g.long))
tiling_read {c} {stop} {at} (gap g t) (suc n) most =
    let reach = extent_at-gap g in
    let long = g.long in
    let up = tiled_upwards t in
    cond-false (leb stop at) _ _ (lt-leb stop at (omega arith))
    ∙ cond-true (eqb (cell c at) 0) _ _ (eq-eqb (cell c at) 0 g.unnamed) ∙ tiling_read t n (omega arith)
tiling_read (body b t) zero most = absurd (omega (arith, tiled_upwards t, extent_at-body b))
tiling_read {c} {stop} {at} (body b t) (suc n) most =
    let reach = extent_at-body b in
    let up = tiled_upwards t in
    cond-false (leb stop at) _ _ (lt-leb stop at (omega arith))
    ∙ cond-false (eqb (cell c at) 0) _ _ (ne_eqb (cell c at) 0 b.identified)
    ∙ ap (λ (os : List (ℕ × Object)). (at, object_in c at) ∷ os) (tiling_read t n (omega arith))
