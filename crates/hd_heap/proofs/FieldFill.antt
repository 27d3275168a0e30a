-- Lemmas on a new object that gets its value and its fields, one by one.
use Rattle.std.proofs.Common.{add-one}
use Rattle.hd_heap.proofs.Basics.{Addr, Bool, Contains, Contains-get_or, Contents, IsObject, List, None, Object, Option, Some, [], address, ap, arith, both_ways, cases_lt, fields_at, get_or, get_or_past, inl, inr, is_some, length, map, object_at, placed_of, refl, region_with_object, region_with_put, replicate, set, set-get_or, size_of, subst, suc, sym, with_field, zero, ℕ, ◌+◌, ◌<◌, ◌∙◌, ◌∷◌, ◌≡◌}
use Rattle.hd_heap.proofs.{Areas.object_there, FieldForward.placed_is, FieldForward.placed_there, HeapValues.put_same, HeapValues.put_twice}
use Rattle.hd_heap.specs.{Calls.filled_object, Inside.region_filled, Inside.stored_target}
use Rattle.std.specs.FinMap as fin

-- a list whose first i items are what is read of i others
unfoldable pub filled : {A B : Type 0} → (B → A) → ℕ → List B → List A → List A
filled g zero src fields = fields
filled g (suc i) [] fields = fields
filled g (suc i) (r ∷ src) [] = []
filled g (suc i) (r ∷ src) (x ∷ fields) = g r ∷ filled g i src fields

module _ {A B : Type 0} (g : B → A) where
  pub filled-first : (src : List B) (fields : List A) → filled g 0 src fields ≡ fields
  unfolding filled
  filled-first src fields = refl

  pub filled-length : (i : ℕ) (src : List B) (fields : List A)
      → length (filled g i src fields) ≡ length fields
  unfolding filled
  filled-length zero src fields = refl
  filled-length (suc i) [] fields = refl
  filled-length (suc i) (r ∷ src) [] = refl
  filled-length (suc i) (r ∷ src) (x ∷ fields) = ap suc (filled-length i src fields)

  pub filled-next : (none : B) (i : ℕ) (src : List B) (fields : List A) → i < length src
      → set (filled g i src fields) i (g (get_or src i none)) ≡ filled g (suc i) src fields
  unfolding filled
  filled-next none zero [] fields low = absurd (omega arith)
  filled-next none zero (r ∷ src) [] low = refl
  filled-next none zero (r ∷ src) (x ∷ fields) low = refl
  filled-next none (suc i) [] fields low = absurd (omega arith)
  filled-next none (suc i) (r ∷ src) [] low = refl
  filled-next none (suc i) (r ∷ src) (x ∷ fields) low =
      ap (λ rest. g r ∷ rest) (filled-next none i src fields (omega arith))

  -- the others are as they were
  pub filled-ahead : (none : A) (i : ℕ) (src : List B) (fields : List A)
      → get_or (filled g i src fields) i none ≡ get_or fields i none
  unfolding filled
  filled-ahead none zero src fields = refl
  filled-ahead none (suc i) [] fields = refl
  filled-ahead none (suc i) (r ∷ src) [] = refl
  filled-ahead none (suc i) (r ∷ src) (x ∷ fields) = filled-ahead none i src fields

  pub filled-all : (src : List B) (fields : List A) → length src ≡ length fields
      → filled g (length src) src fields ≡ map g src
  unfolding filled
  filled-all [] [] same = refl
  filled-all [] (x ∷ fields) same = absurd (omega arith)
  filled-all (r ∷ src) [] same = absurd (omega arith)
  filled-all (r ∷ src) (x ∷ fields) same = ap (λ rest. g r ∷ rest) (filled-all src fields (omega arith))

-- how far the fields of an object have been written
abbrev pub partly_filled : (ℕ → ℕ) → List ℕ → Contents → (at i : ℕ) → Object
partly_filled g src r at i = record (object_at r at) { fields = filled g i src (fields_at r at) }

pub record IsFilling (g : ℕ → ℕ) (src : List ℕ) (r : Contents) (at i : ℕ) (now : Contents) : Type 0 where
  pub is : now ≡ region_with_object r at (partly_filled g src r at i)

pub filling_starts : (g : ℕ → ℕ) (src : List ℕ) (r : Contents) (at : ℕ) → IsObject r at
    → IsFilling g src r at 0 r
filling_starts g src r at there = record {
  is = ap (λ m. record r { objects = m }) (put_same r.objects at (object_at r at) (object_there r at there))
      ∙ ap (λ xs. region_with_object r at (record (object_at r at) { fields = xs }))
      (sym (filled-first g src (fields_at r at)));
}

module _ {g : ℕ → ℕ} {src : List ℕ} {r : Contents} {at i : ℕ} {now : Contents}
    (f : IsFilling g src r at i now) where
  objects_are : now.objects ≡ fin.insert r.objects at (partly_filled g src r at i)
  objects_are = ap (λ (x : Contents). x.objects) f.is

  pub filling_there : IsObject now at
  filling_there = placed_there now r.objects at (partly_filled g src r at i) objects_are

  object_is : object_at now at ≡ partly_filled g src r at i
  object_is = placed_is now r.objects at (partly_filled g src r at i) objects_are

  pub filling_long : length (fields_at now at) ≡ length (fields_at r at)
  filling_long = ap (λ (o : Object). length o.fields) object_is ∙ filled-length g i src (fields_at r at)

  pub filling_null : get_or (fields_at r at) i 0 ≡ 0 → get_or (fields_at now at) i 0 ≡ 0
  filling_null null = ap (λ (o : Object). get_or o.fields i 0) object_is ∙ filled-ahead g 0 i src (fields_at r at)
      ∙ null

  -- the next one is written
  pub filling_next : (new : Contents) (v : ℕ) → i < length src → v ≡ g (get_or src i 0)
      → new ≡ region_with_object now at (with_field (object_at now at) i v)
      → IsFilling g src r at (i + 1) new
  filling_next new v below v_is written =
      let o = object_at r at in
      let before = partly_filled g src r at i in
      record {
        is = written ∙ (λ j. region_with_object (f.is j) at (with_field (object_is j) i (v_is j)))
            ∙ ap (λ m. record r { objects = m })
            (put_twice r.objects at before (with_field before i (g (get_or src i 0))))
            ∙ ap (λ xs. region_with_object r at (record o { fields = xs }))
            (filled-next g 0 i src o.fields below
            ∙ ap (λ n. filled g n src o.fields) (sym (add-one i)));
      }

  -- all are
  pub filling_ends : i ≡ length src → length src ≡ length (fields_at r at)
      → now ≡ region_with_object r at (record (object_at r at) { fields = map g src })
  filling_ends past same =
      f.is ∙ ap (λ n. region_with_object r at (partly_filled g src r at n)) past
      ∙ ap (λ xs. region_with_object r at (record (object_at r at) { fields = xs }))
      (filled-all g src (fields_at r at) same)

-- a field that is null may be written so
pub null_written : (r : Contents) (at i : ℕ) → IsObject r at → get_or (fields_at r at) i 0 ≡ 0
    → r ≡ region_with_object r at (with_field (object_at r at) i 0)
null_written r at i there null =
    ap (λ m. record r { objects = m }) (put_same r.objects at (object_at r at) (object_there r at there))
    ∙ ap (λ xs. region_with_object r at (record (object_at r at) { fields = xs }))
    (sym (ap (set (fields_at r at) i) (sym null) ∙ set-get_or (fields_at r at) i 0))

-- the fields of a new object are null
pub nulls : (n i : ℕ) → get_or (replicate n (let z : ℕ = 0 in z)) i 0 ≡ 0
nulls zero i = refl
nulls (suc n) zero = refl
nulls (suc n) (suc i) = nulls n i

-- an object was put after all others of a region
pub record IsNew (r now : Contents) (at : ℕ) (o : Object) : Type 0 where
  pub offset : at ≡ r.fill
  pub is : now ≡ region_with_put r o

pub new_put : (r : Contents) (o : Object) {now : Contents} {at : ℕ} → at ≡ r.fill → now ≡ region_with_put r o
    → IsNew r now at o
new_put r o offset is = record { offset = offset; is = is }

module _ {r now : Contents} {at : ℕ} {o : Object} (p : IsNew r now at o) where
  new_are : now.objects ≡ fin.insert r.objects at o
  new_are = ap (λ (x : Contents). x.objects) p.is ∙ ap (λ k. fin.insert r.objects k o) (sym p.offset)

  pub new_there : IsObject now at
  new_there = placed_there now r.objects at o new_are

  pub new_is : object_at now at ≡ o
  new_is = placed_is now r.objects at o new_are

  -- it is written
  pub new_written : (change : Object → Object) {new : Contents} → size_of o ≡ size_of (change o)
      → new ≡ region_with_object now at (change (object_at now at)) → IsNew r new at (change o)
  new_written change size written = record {
    offset = p.offset;
    is = written
        ∙ (λ j. region_with_object (p.is j) (p.offset j) (change (new_is j)))
        ∙ (λ j. record r {
          objects = put_twice r.objects r.fill o (change o) j;
          fill = r.fill + size j;
        });
  }

-- what is read of a list, in it or past its end, is none or is in it
pub contains_read : {A : Type 0} (xs : List (Option A)) (k : ℕ) (y : A) → get_or xs k None ≡ Some y
    → Contains xs (Some y)
contains_read xs k y is = elim (cases_lt k (length xs)) [
  | inl within ↦ subst (Contains xs) is (Contains-get_or xs k None within)
  | inr past ↦ absurd (both_ways _ (ap is_some (get_or_past xs k None past)) (ap is_some is))
]

-- what is stored for an object or null is read back
module _ (targets : List (Option Addr))
    (stored : (y : Addr) → Contains targets (Some y) → address y.0 ≡ Some y) where
  back : (k : ℕ) (o : Option Addr) → get_or targets k None ≡ o → address (stored_target o) ≡ o
  back k None is = refl
  back k (Some y) is = stored y (contains_read targets k y is)

  fields_back : (first : ℕ) (src : List ℕ)
      → map address (map (λ i. stored_target (get_or targets (first + i) None)) src)
      ≡ map (λ i. get_or targets (first + i) None) src
  fields_back first [] = refl
  fields_back first (i ∷ src) =
      λ j. back (first + i) (get_or targets (first + i) None) refl j ∷ fields_back first src j

  pub filled_placed : (id value : ℕ) (on : Bool) (first : ℕ) (src : List ℕ)
      → placed_of (region_filled id value on targets first src)
      ≡ filled_object (record { 0 = id }) value on targets first src
  filled_placed id value on first src =
      λ j. record { id = record { 0 = id }; fields = fields_back first src j; value = value; registered = on }
