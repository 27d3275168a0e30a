-- In every state of a run there is a free address for each object, so no caller is ever stuck.
use Rattle.hd_model.specs.{declared.limits.TheConstants.FIELDS, declared.limits.TheConstants.HEAP, declared.data.Id.Id}
use Rattle.hd_model.proofs.Basics.{Bool, FinMap, IsFreeAddress, IsSome, IsWellFormed, List, None, Numbers, Object, Option, Some, State, [], ap, arith, cases_eq, cond, contains_key, empty, entries, false, find, get, get-entries, inl, inr, insert, is_some, len, len-empty, len-entries, len-insert, length, nat_cmp, nat_cmp_total, object_by_id, refl, size_of, subst, suc, sym, total_size, true, true≢false, unwrap_or, zero, ℕ, ⊎_elim, ◌*◌, ◌+◌, ◌/◌, ◌<◌, ◌∙◌, ◌∷◌, ◌≡◌, ◌≤◌, ◌⊎◌}
use Rattle.hd_laws.proofs.Basics.{RunsAreNeverStuck}
use Rattle.hd_model.proofs.{MapEntries.found_later, Sums.sum-many, WellFormedSteps.run_is_well_formed, ReadAfterWrite.get_inserted, ReadAfterWrite.still_some}
use Rattle.hd_laws.proofs.{HeapLimit.heap_is_within_its_limit, StepExistence.filled, StepExistence.every_command_has_a_step}

-- a key that a map lacks, among some from a number on
data Lacks {X : Type 0} (m : FinMap nat_cmp X) (from fuel : ℕ) : Type 0 where
  lacks : (q : ℕ) → q < from + fuel → get m q ≡ None → Lacks m from fuel

find_lacking : {X : Type 0} (m : FinMap nat_cmp X) (fuel from : ℕ)
    → Lacks m from fuel ⊎ ((q : ℕ) → from ≤ q → q < from + fuel → IsSome (get m q))
find_lacking m zero from = inr (λ q low high. absurd (omega arith))
find_lacking {X} m (suc fuel) from = by (find_lacking m fuel (suc from)) (get m from) refl
  where
    by : Lacks m (suc from) fuel ⊎ ((q : ℕ) → suc from ≤ q → q < suc from + fuel → IsSome (get m q))
        → (o : Option X) → get m from ≡ o
        → Lacks m from (suc fuel) ⊎ ((q : ℕ) → from ≤ q → q < from + suc fuel → IsSome (get m q))
    by later None none = inl (lacks from (omega arith) none)
    by (inl (lacks q high none)) (Some x) some = inl (lacks q (omega arith) none)
    by (inr all) (Some x) some = inr (λ q low high.
        ⊎_elim (λ same. subst (λ k. IsSome (get m k)) (sym same) (ap is_some some))
        (λ ne. all q (omega arith) (omega arith)) (cases_eq q from))

-- a map lacks a key from 1 to one more than it has keys
lacking : {X : Type 0} (m : FinMap nat_cmp X) → Lacks m 1 (len m + 1)
lacking m =
    ⊎_elim (λ found. found) (λ all. absurd (
    let most = filled (len m + 1) m (λ q low high. all q low (omega arith)) in
    omega arith)) (find_lacking m (len m + 1) 1)

-- a map whose keys are the numbers that f gives the keys of some entries
abbrev numbers : {A : Type 0} → (ℕ → ℕ) → List (ℕ × A) → FinMap nat_cmp ℕ
numbers f [] = empty
numbers f (e ∷ es) = insert (numbers f es) (f e.0) 0

one_more : (b : Bool) (x : ℕ) → cond b x (x + 1) ≤ x + 1
one_more true x = omega arith
one_more false x = omega arith

-- it has no more keys than there are entries
few_numbers : {A : Type 0} (f : ℕ → ℕ) (es : List (ℕ × A)) → len (numbers f es) ≤ length es
few_numbers f [] = let none = len-empty nat_cmp ℕ in omega arith
few_numbers f (e ∷ es) =
    let rest = few_numbers f es in
    let put = len-insert nat_cmp_total (numbers f es) (f e.0) 0 in
    let more = one_more (contains_key (numbers f es) (f e.0)) (len (numbers f es)) in
    omega arith

-- and it has the number of each
has_number : {A : Type 0} (f : ℕ → ℕ) (es : List (ℕ × A)) (k : ℕ) → IsSome (find nat_cmp k es)
    → IsSome (get (numbers f es) (f k))
has_number f [] k is = absurd (true≢false (sym is))
has_number f (e ∷ es) k is =
    ⊎_elim (λ same. subst (λ x. IsSome (get (numbers f (e ∷ es)) (f x))) (sym same)
    (ap is_some (get_inserted (numbers f es) (f e.0) 0)))
    (λ ne. still_some (numbers f es) (f e.0) 0 (f k) (has_number f es k
    (subst IsSome (found_later k e.0 (Some e.1) (find nat_cmp k es) ne) is)))
    (cases_eq k e.0)

-- of the addresses 0, 128, 256 and so on, the only one whose 64 cells the 64 cells at an address may meet
abbrev beside : ℕ → ℕ
beside address = (address + 64) / 128

meets_one : (j address : ℕ) → 128 * j < address + 64 → address < 128 * j + 64 → beside address ≡ j
meets_one j address low high = omega arith

module _ (n : Numbers) (s : State) (w : IsWellFormed n s) where
  -- an object takes at most 64 cells
  is_small : (id : Id) → length (object_by_id s id).fields ≤ FIELDS
  is_small id = by (get s.objects id.0) refl
    where
      by : (o : Option (Object Id)) → get s.objects id.0 ≡ o
          → length (unwrap_or o (record {
            fields = [];
            value = 0;
            generation = 0;
            registered = false;
          })).fields ≤ FIELDS
      by None none = omega arith
      by (Some x) some = w.objects.sizes id.0 x some

  -- which of them the address of an object may meet, if it has one
  abbrev met : ℕ → ℕ
  met id = beside (unwrap_or (get s.pinned id) 0)

  -- more of them are below 2^32 than there can be objects, so one meets no pinned address
  some_address : total_size s ≤ HEAP → (id : Id) → (p : ℕ) × IsFreeAddress s id p
  some_address low id = by (lacking (numbers met (entries s.objects)))
    where
      by : Lacks (numbers met (entries s.objects)) 1 (len (numbers met (entries s.objects)) + 1)
          → (p : ℕ) × IsFreeAddress s id p
      by (lacks j high none) = (
        128 * j,
        record {
          small = (let few = few_numbers met (entries s.objects) in
              let all = len-entries s.objects in
              let cells = sum-many size_of 3 (λ (x : Object Id). omega arith) s.objects in
              omega arith);
          apart = λ y other is meet.
              let mine = is_small id in
              let other's = is_small y in
              let there : IsSome (find nat_cmp y.0 (entries s.objects)) =
              subst IsSome (get-entries s.objects y.0) (w.names.pinned y.0 (ap is_some is)) in
              let left = meet.left in
              let right = meet.right in
              let at : met y.0 ≡ j =
              ap (λ o. beside (unwrap_or o 0)) is ∙ meets_one j other (omega arith) (omega arith) in
              let taken : IsSome (get (numbers met (entries s.objects)) j) =
              subst (λ k. IsSome (get (numbers met (entries s.objects)) k)) at
              (has_number met (entries s.objects) y.0 there) in
              true≢false (sym taken ∙ ap is_some none);
        },
      )

pub runs_are_never_stuck : RunsAreNeverStuck
runs_are_never_stuck n journal s caller c run small known valid serial =
    let w = run_is_well_formed n journal s run in
    let within = heap_is_within_its_limit n journal s run in
    let low : total_size s ≤ HEAP = omega arith in
    every_command_has_a_step n s caller c w known valid (record {
      serial = serial;
      address = λ h id is pins none. some_address n s w low id;
    })
