-- Lemmas on one region of a heap.
use Rattle.hd_heap.proofs.Basics.{Area, BeginsIn, Bool, CARD, Contents, IsArea, IsFreed, IsLaidOut, IsObject, IsTaken, List, None, Object, Option, Some, [], ap, area_put, area_written, arith, both_ways, card_in, cases_eq, cond, contents, empty_region, eqb-true, false, get_left, get_or, get_or-set_other, get_or-set_same, inl, inr, is_some, len_less, length, length-set, map, nat_cmp, nat_cmp_total, nat_eq, no_object, none_from, not, object_at, refl, region_with_object, region_with_put, replicate, set, share, size_of, still_some, subst, suc, sum-at, sum-insert, sum-many, sum-taken, sum_by, sym, true, true_from_ne_false, unwrap_or, with_contents, without_object, zero, ℕ, ◌+◌, ◌-◌, ◌/◌, ◌∙◌, ◌∷◌, ◌≡◌, ◌≤◌}
use Rattle.std.specs.FinMap as map

-- the object at an offset
pub some_of : {A : Type 0} (o : Option A) → is_some o ≡ true → (x : A) × (o ≡ Some x)
some_of None e = absurd (cc e)
some_of (Some x) e = (x, refl)

pub object_there : (r : Contents) (k : ℕ) → IsObject r k → map.get r.objects k ≡ Some (object_at r k)
object_there r k is =
    let some = some_of (map.get r.objects k) is in
    some.1 ∙ ap Some (sym (ap (λ (o : Option Object). unwrap_or o no_object) some.1))

pub absent : (r : Contents) (k : ℕ) → ¬ (IsObject r k) → map.get r.objects k ≡ None
absent r k none = none_from (map.get r.objects k) none

-- no object is in an empty region
pub none_in_empty : (k : ℕ) → IsObject empty_region k → ⊥
none_in_empty k is = both_ways _ (ap is_some (map.get-empty {X = Object} nat_cmp k)) is

-- a region with an object is in use
pub held_by_object : (a : Area) → IsArea a → (k : ℕ) → IsObject (contents a) k → a.held ≡ true
held_by_object a is k there = true_from_ne_false a.held (λ free.
    none_in_empty k (subst (λ (r : Contents). IsObject r k) (is.free free) there))

-- nothing is at the allocation pointer
pub none_at_fill : (a : Area) → IsArea a → map.get (contents a).objects (contents a).fill ≡ None
none_at_fill a is = absent (contents a) (contents a).fill (λ there. omega (
  arith,
  is.laid_out.below_fill (contents a).fill there,
))

-- an object is put at an offset, where there was none or in place of another one
area_inserted : {a : Area} (k : ℕ) (o : Object) {r : Contents} {live count : ℕ} → IsArea a → a.held ≡ true
    → r.objects ≡ map.insert (contents a).objects k o → IsLaidOut r
    → live + share size_of (map.get (contents a).objects k) ≡ a.live + size_of o
    → count ≡ cond (is_some (map.get (contents a).objects k)) a.count (a.count + 1)
    → r.fill + a.live ≡ (contents a).fill + live
    → IsArea (record (with_contents a r) { live = live; count = count })
area_inserted {a} k o {r} {live} is held put laid lives counts fill =
    let sum = sum-insert size_of (contents a).objects k o in
    let total = ap (λ (m : map.FinMap nat_cmp Object). sum_by size_of (map.values m)) put in
    let old = is.live in
    let low = is.within in
    record {
      laid_out = laid;
      live = omega arith;
      count = counts ∙ ap (λ n. cond (is_some (map.get (contents a).objects k)) n (n + 1)) is.count
          ∙ sym (ap map.len put ∙ map.len-insert nat_cmp_total (contents a).objects k o);
      within = omega arith;
      generation = is.generation;
      card_count = is.card_count;
      cards = λ card set.
          let was = is.cards card set in
          record {
            at = was.at;
            object = ap (λ (m : map.FinMap nat_cmp Object). is_some (map.get m was.at)) put
                ∙ still_some (contents a).objects k o was.at was.object;
            in_card = was.in_card;
          };
      free = λ free. absurd (both_ways a.held free held);
    }

-- an object is written
pub area_after_write : {a : Area} (at : ℕ) (o : Object) {r : Contents} → IsArea a → IsObject (contents a) at
    → r ≡ region_with_object (contents a) at o → IsLaidOut r → size_of o ≡ size_of (object_at (contents a) at)
    → IsArea (with_contents a r) × (with_contents a r ≡ area_written a at o)
area_after_write {a} at o is there e laid same = (
  area_inserted at o is (held_by_object a is at there) (ap (λ (x : Contents). x.objects) e) laid
      (omega (arith, same, ap (share size_of) (object_there (contents a) at there)))
      (sym (ap (λ t. cond t a.count (a.count + 1)) there)) (omega (arith, ap (λ (x : Contents). x.fill) e)),
  ap (with_contents a) e,
)

-- an object is put after all others
pub area_after_put : {a : Area} (o : Object) {r : Contents} {size : ℕ} → IsArea a → a.held ≡ true
    → r ≡ region_with_put (contents a) o → IsLaidOut r → size ≡ size_of o
    → let b = record (with_contents a r) { live = a.live + size; count = a.count + 1 } in
    IsArea b × (b ≡ area_put a o)
area_after_put {a} o is held e laid same = (
  area_inserted (contents a).fill o is held (ap (λ (x : Contents). x.objects) e) laid
      (omega (arith, same, ap (share size_of) (none_at_fill a is)))
      (sym (ap (λ x. cond (is_some x) a.count (a.count + 1)) (none_at_fill a is)))
      (omega (arith, same, ap (λ (x : Contents). x.fill) e)),
  λ i. record (with_contents a (e i)) { live = a.live + same i; count = a.count + 1 },
)

-- the sum over nothing
pub sum_none : {A : Type 0} (f : A → ℕ) → sum_by f (map.values (map.empty {X = A} {R = nat_cmp})) ≡ 0
sum_none {A} f =
    let bare : map.entries (map.empty {X = A} {R = nat_cmp}) ≡ [] = no_length _
    (sym (map.len-entries (map.empty {X = A} {R = nat_cmp})) ∙ map.len-empty nat_cmp A) in
    ap (λ (es : List (ℕ × A)). sum_by f (map (λ e. e.1) es)) bare
  where
    no_length : (es : List (ℕ × A)) → length es ≡ 0 → es ≡ []
    no_length [] e = refl
    no_length (x ∷ es) e = absurd (omega arith)

-- no card is set in a new list
pub falses : (n k : ℕ) → get_or (replicate n false) k false ≡ false
falses zero k = refl
falses (suc n) zero = refl
falses (suc n) (suc k) = falses n k

-- a region without objects and set cards
pub area_empty : (b : Area) → IsFreed b → IsLaidOut (contents b) → b.generation ≤ 2 → length b.cards ≡ 8
    → IsArea b
area_empty b free laid few card_count =
    let none : sum_by size_of (map.values (contents b).objects) ≡ 0 =
    ap (λ (r : Contents). sum_by size_of (map.values r.objects)) free.contents_are ∙ sum_none size_of in
    record {
      laid_out = laid;
      live = omega (arith, free.live);
      count = free.count
          ∙ sym (ap (λ (r : Contents). map.len r.objects) free.contents_are ∙ map.len-empty nat_cmp Object);
      within = omega (arith, free.live);
      generation = few;
      card_count = card_count;
      cards = λ card set. absurd (both_ways _ (free.cards card) set);
      free = λ _. free.contents_are;
    }

-- an object's size is taken
pub live_at : (a : Area) → IsArea a → (k : ℕ) → IsObject (contents a) k
    → size_of (object_at (contents a) k) ≤ a.live
live_at a is k there =
    omega (
      arith,
      is.live,
      sum-at size_of (contents a).objects k (object_at (contents a) k) (object_there (contents a) k there),
    )

-- no object takes cells where none are taken
pub none_live : (a : Area) → IsArea a → not (nat_eq a.live 0) ≡ false → (k : ℕ) → ¬ (IsObject (contents a) k)
none_live a is bare k there =
    let zero_live = eqb-true a.live 0 (true_from_ne_false _ (λ e. both_ways _ bare (ap not e))) in
    omega (arith, zero_live, live_at a is k there)

-- an object takes three cells or more
pub count_small : (a : Area) → IsArea a → a.count ≤ 85
count_small a is =
    let known = sum-many size_of 3 (λ o. omega arith) (contents a).objects in
    omega (arith, is.count, is.live, is.within, is.laid_out.within_region, known)

-- an object is counted
pub count_at : (a : Area) → IsArea a → (k : ℕ) → IsObject (contents a) k → 1 ≤ a.count
count_at a is k there = omega (arith, is.count, len_less (contents a).objects k there)

-- an object is taken, and its card is set or clear
pub area_taken : {a : Area} {at cells : ℕ} {r : Contents} {cards : List Bool} (card : Bool) → IsArea a
    → IsObject (contents a) at → r ≡ without_object (contents a) at → IsLaidOut r
    → cells ≡ size_of (object_at (contents a) at) → cards ≡ set a.cards (at / CARD) card
    → (card ≡ true → BeginsIn r (at / CARD))
    → (BeginsIn r (at / CARD) → card ≡ card_in (Some a) (at / CARD))
    → let b = record (with_contents a r) { live = a.live - cells; count = a.count - 1; cards = cards } in
    IsArea b × IsTaken a b at cells
area_taken {a} {at} {cells} {r} {cards} card is there removed laid size marks begins kept =
    let taken = sum-taken size_of (contents a).objects at (object_at (contents a) at)
    (object_there (contents a) at there) in
    let total = ap (λ (x : Contents). sum_by size_of (map.values x.objects)) removed in
    let fill = ap (λ (x : Contents). x.fill) removed in
    let low = live_at a is at there in
    let read = λ (c : ℕ). ap (λ bs. get_or bs c false) marks in (
      record {
        laid_out = laid;
        live = omega (arith, taken, total, is.live, low);
        count = omega (
          arith,
          is.count,
          len_less (contents a).objects at there,
          ap (λ (x : Contents). map.len x.objects) removed,
        );
        within = omega (arith, is.within, fill, low, size);
        generation = is.generation;
        card_count = ap length marks ∙ length-set a.cards (at / CARD) card ∙ is.card_count;
        cards = λ c set. elim (cases_eq c (at / CARD)) [
          | inl same ↦ subst (BeginsIn r) (sym same)
              (begins (sym (get_or-set_same a.cards (at / CARD) card false (omega (
                arith,
                is.card_count,
                is.laid_out.within_region,
                is.laid_out.below_fill at there,
              ))) ∙ sym (read (at / CARD)) ∙ ap (λ n. get_or cards n false) (sym same) ∙ set))
          | inr apart ↦
              let was = is.cards c (sym (read c ∙ get_or-set_other a.cards (at / CARD) c card false apart) ∙ set) in
              subst (λ (x : Contents). BeginsIn x c) (sym removed) record {
                at = was.at;
                object = ap is_some (get_left (contents a).objects at was.at
                    (λ e. apart (sym was.in_card ∙ ap (λ (n : ℕ). n / CARD) e))) ∙ was.object;
                in_card = was.in_card;
              }
        ];
        free = λ free. absurd (both_ways _ free (held_by_object a is at there));
      },
      record {
        card = card;
        is = λ i. record (with_contents a (removed i)) {
          live = a.live - cells;
          count = a.count - 1;
          cards = marks i;
        };
        size = size;
        begins = begins;
        kept = kept;
      },
    )

-- a free region has no object
pub free_area : (a : Area) → IsArea a → a.held ≡ false → (a.count ≡ 0) × (a.live ≡ 0)
free_area a is free =
    let bare = is.free free in (
      is.count ∙ ap (λ (r : Contents). map.len r.objects) bare ∙ map.len-empty nat_cmp Object,
      omega (arith, is.within, ap (λ (r : Contents). r.fill) bare),
    )
