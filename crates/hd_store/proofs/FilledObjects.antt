-- The value of an object of a store is written, and then its fields, one by one.
use Rattle.std.proofs.Common.{add-one}
use Rattle.hd_store.proofs.StoreWords.{Addr, Heap, Id, List, Machine, Object, Option, [], ap, arith, get_inserted, get_or, insert, length, map, name_in, named_in, object_by_id, object_named, put_twice, refl, register_of, set, subst, suc, sym, unwrap_or, with_object, zero, ℕ, ◌+◌, ◌<◌, ◌∙◌, ◌∷◌, ◌≡◌, false}

-- a list whose first i items are what is read of i others
unfoldable pub filled : {A B : Type 0} → (B → A) → ℕ → List B → List A → List A
filled g zero src fields = fields
filled g (suc i) [] fields = fields
filled g (suc i) (r ∷ src) [] = []
filled g (suc i) (r ∷ src) (x ∷ fields) = g r ∷ filled g i src fields

module _ {A B : Type 0} (g : B → A) where
  pub filled-first : (src : List B) (fields : List A) → filled g 0 src fields ≡ fields
  unfolding filled
  filled-first src fields = refl

  pub filled-length : (i : ℕ) (src : List B) (fields : List A) → length (filled g i src fields) ≡ length fields
  unfolding filled
  filled-length zero src fields = refl
  filled-length (suc i) [] fields = refl
  filled-length (suc i) (r ∷ src) [] = refl
  filled-length (suc i) (r ∷ src) (x ∷ fields) = ap suc (filled-length i src fields)

  pub filled-next : (none : B) (i : ℕ) (src : List B) (fields : List A) → i < length src
      → set (filled g i src fields) i (g (get_or src i none)) ≡ filled g (suc i) src fields
  unfolding filled
  filled-next none zero [] fields low = absurd (omega arith)
  filled-next none zero (r ∷ src) [] low = refl
  filled-next none zero (r ∷ src) (x ∷ fields) low = refl
  filled-next none (suc i) [] fields low = absurd (omega arith)
  filled-next none (suc i) (r ∷ src) [] low = refl
  filled-next none (suc i) (r ∷ src) (x ∷ fields) low =
      ap (λ rest. g r ∷ rest) (filled-next none i src fields (omega arith))

  pub filled-all : (src : List B) (fields : List A) → length src ≡ length fields
      → filled g (length src) src fields ≡ map g src
  unfolding filled
  filled-all [] [] same = refl
  filled-all [] (x ∷ fields) same = absurd (omega arith)
  filled-all (r ∷ src) [] same = absurd (omega arith)
  filled-all (r ∷ src) (x ∷ fields) same = ap (λ rest. g r ∷ rest) (filled-all src fields (omega arith))

-- an object that is none
abbrev no_object : Object Id
no_object = record { fields = []; value = 0; generation = 0; registered = false }

module _ (m : Machine) (at : Addr) (value caller : ℕ) (src : List ℕ) where
  -- the object with its value and its first i fields, and the store with it
  abbrev pub object_to : ℕ → Object Id
  object_to i = record (object_named m at) {
    fields = filled (register_of m.state caller) i src (object_named m at).fields;
    value = value;
  }

  abbrev pub filled_to : ℕ → Heap → Machine
  filled_to i heap = record m { state = with_object m.state (name_in m.names at) (object_to i); heap = heap }

  pub fills-first : (k : Machine)
      → k ≡ record m {
        state = with_object m.state (name_in m.names at) (record (object_named m at) { value = value });
        heap = k.heap;
      }
      → k ≡ filled_to 0 k.heap
  fills-first k wrote =
      wrote
      ∙ (λ j. record m {
        state = with_object m.state (name_in m.names at) (record (object_named m at) {
          fields = sym (filled-first (register_of m.state caller) src (object_named m at).fields) j;
          value = value;
        });
        heap = k.heap;
      })

  -- what is read back of it
  object-back : (i : ℕ)
      → object_by_id (with_object m.state (name_in m.names at) (object_to i)) (name_in m.names at) ≡ object_to i
  object-back i =
      ap (λ o. unwrap_or o no_object) (get_inserted m.state.objects (name_in m.names at).0 (object_to i))

  pub fills-within : (i : ℕ) (u : Machine) → i < length src → length src ≡ length (object_named m at).fields
      → u ≡ filled_to i u.heap → i < length (object_named u at).fields
  fills-within i u low same so_far =
      let fields = filled-length (register_of m.state caller) i src (object_named m at).fields in
      subst (λ (x : Machine). i < length (object_named x at).fields) (sym so_far)
      (subst (λ (o : Object Id). i < length o.fields) (sym (object-back i)) (omega (arith, fields, same, low)))

  pub fills-next : (i : ℕ) (u k : Machine) (v : Option Addr) → i < length src → u ≡ filled_to i u.heap
      → named_in u.names v ≡ register_of u.state caller (get_or src i 0)
      → k ≡ record u {
        state = with_object u.state (name_in u.names at) (record (object_named u at) {
          fields = set (object_named u at).fields i (named_in u.names v);
        });
        heap = k.heap;
      }
      → k ≡ filled_to (i + 1) k.heap
  fills-next i u k v low so_far named wrote =
      wrote
      ∙ (λ j. record u {
        state = with_object u.state (name_in u.names at) (record (object_named u at) {
          fields = set (object_named u at).fields i (named j);
        });
        heap = k.heap;
      })
      ∙ ap (λ (x : Machine). record x {
        state = with_object x.state (name_in x.names at) (record (object_named x at) {
          fields = set (object_named x at).fields i (register_of x.state caller (get_or src i 0));
        });
        heap = k.heap;
      }) so_far
      ∙ (λ j. record m {
        state = record m.state {
          objects = insert (insert m.state.objects id.0 (object_to i)) id.0 (after (object-back i j));
        };
        heap = k.heap;
      })
      ∙ (λ j. record m { state = record m.state { objects = twice j }; heap = k.heap })
      ∙ (λ j. record m {
        state = with_object m.state id (record (object_named m at) { fields = step j; value = value });
        heap = k.heap;
      })
    where
      id : Id
      id = name_in m.names at

      g : ℕ → Option Id
      g = register_of m.state caller

      after : Object Id → Object Id
      after o = record o { fields = set o.fields i (g (get_or src i 0)) }

      twice : insert (insert m.state.objects id.0 (object_to i)) id.0 (after (object_to i))
          ≡ insert m.state.objects id.0 (after (object_to i))
      twice = put_twice m.state.objects id.0 (object_to i) (after (object_to i))

      step : set (filled g i src (object_named m at).fields) i (g (get_or src i 0))
          ≡ filled g (i + 1) src (object_named m at).fields
      step = filled-next g 0 i src (object_named m at).fields low
          ∙ ap (λ n. filled g n src (object_named m at).fields) (sym (add-one i))

  pub fills-all : (i : ℕ) (u : Machine) → i ≡ length src → length src ≡ length (object_named m at).fields
      → u ≡ filled_to i u.heap
      → u ≡ record m {
        state = with_object m.state (name_in m.names at) (record (object_named m at) {
          fields = map (register_of m.state caller) src;
          value = value;
        });
        heap = u.heap;
      }
  fills-all i u all same so_far =
      so_far ∙ (λ j. filled_to (all j) u.heap)
      ∙ (λ j. record m {
        state = with_object m.state (name_in m.names at) (record (object_named m at) {
          fields = filled-all (register_of m.state caller) src (object_named m at).fields same j;
          value = value;
        });
        heap = u.heap;
      })
