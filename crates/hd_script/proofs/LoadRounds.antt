-- The lists of a generated script, round by round.
use Rattle.hd_script.proofs.Basics.{All, All-append, All-cons, All-from_recursion, All-nil, AreLists, Cmd, Global, IsValid, IsValidMake, List, ROUNDS_TO_COLLECTION, Vec, [], ap, arith, collection_after, cond_both, contents, eqb, eqb-false, eqb-true, false, flat_map, flat_map_more, length, length-append, make_of_round, makes_in_turn, map, map-range_with_len_more, map_push, range_with_len, recursion_from_All, refl, round_of, subst, suc, sym, zero, ℕ, ◌%◌, ◌*◌, ◌++◌, ◌+◌, ◌/◌, ◌<◌, ◌^◌, ◌∙◌, ◌∷◌, ◌≡◌, ◌≤◌}
use Rattle.hd_model.specs.Generated.{generated_list, generated_lists}
use Rattle.hd_model.specs.declared.data.Make.TheVariants as make
use Rattle.hd_model.specs.declared.command.Cmd.TheVariants as cmd

range_push : (a n : ℕ) → range_with_len a (suc n) ≡ range_with_len a n ++ (a + n) ∷ []
range_push a zero = let same : a ≡ a + 0 = omega arith in ap (λ (m : ℕ). m ∷ []) same
range_push a (suc n) =
    let same : a + 1 + n ≡ a + suc n = omega arith in
    ap (λ (rest : List ℕ). a ∷ rest)
    (range_push (a + 1) n ∙ ap (λ (m : ℕ). range_with_len (a + 1) n ++ m ∷ []) same)

-- the commands of the rounds so far
abbrev pub rounds_of : ℕ → ℕ → List Cmd
rounds_of caller rounds = flat_map (round_of caller) (range_with_len 1 rounds)

pub round_more : (caller done : ℕ)
    → rounds_of caller (done + 1) ≡ rounds_of caller done ++ round_of caller (done + 1)
round_more caller done =
    let one_more : done + 1 ≡ suc done = omega arith in
    let next : 1 + done ≡ done + 1 = omega arith in
    ap (rounds_of caller) one_more ∙ ap (flat_map (round_of caller)) (range_push 1 done)
    ∙ sym (flat_map_more (round_of caller) [] (range_with_len 1 done) (1 + done))
    ∙ ap (λ (round : ℕ). rounds_of caller done ++ round_of caller round) next

pub all_rounds : (caller rounds : ℕ) (list : List Cmd) → list ≡ rounds_of caller rounds
    → list ≡ generated_list rounds caller
unfolding generated_list
all_rounds caller rounds list e = e

-- what is true of no round, and of one round more, is true of all
pub by_rounds : (P : ℕ → Type 0) → P 0 → ((done : ℕ) → P done → P (done + 1)) → (rounds : ℕ) → P rounds
by_rounds P none more zero = none
by_rounds P none more (suc done) =
    let one_more : done + 1 ≡ suc done = omega arith in
    subst P one_more (more done (by_rounds P none more done))

-- ---- the number of commands

pub collected : (done : ℕ)
    → length (collection_after (done + 1)) + done / ROUNDS_TO_COLLECTION ≡ (done + 1) / ROUNDS_TO_COLLECTION
collected done =
    cond_both (eqb ((done + 1) % ROUNDS_TO_COLLECTION) 0) _ _
    (λ list. length list + done / ROUNDS_TO_COLLECTION ≡ (done + 1) / ROUNDS_TO_COLLECTION)
    (λ h. let e = eqb-true ((done + 1) % ROUNDS_TO_COLLECTION) 0 h in omega arith)
    (λ h. let e : (done + 1) % ROUNDS_TO_COLLECTION ≡ 0 → ⊥ = eqb-false ((done + 1) % ROUNDS_TO_COLLECTION) 0
    h in omega arith)

pub rounds_length : (caller rounds : ℕ)
    → length (rounds_of caller rounds) ≡ 8 * rounds + rounds / ROUNDS_TO_COLLECTION
rounds_length caller =
    by_rounds (λ rounds. length (rounds_of caller rounds) ≡ 8 * rounds + rounds / ROUNDS_TO_COLLECTION) refl
    (λ done before.
    let eight : length (round_of caller (done + 1)) ≡ 8 + length (collection_after (done + 1)) =
    omega arith in
    (let known = length-append (rounds_of caller done) (round_of caller (done + 1)) in
    omega (arith, ap length (round_more caller done), known, before, collected done, eight)))

-- ---- they are valid

valid_collection : (round : ℕ) → All IsValid (collection_after round)
valid_collection round =
    cond_both (eqb (round % ROUNDS_TO_COLLECTION) 0) _ _ (All IsValid)
    (λ h. All-cons IsValid (cmd.Collect (round % 3)) [] (omega arith) (All-nil IsValid))
    (λ h. All-nil IsValid)

valid_makes : All IsValidMake makes_in_turn
valid_makes = All-from_recursion IsValidMake makes_in_turn (tt, (tt, (tt, (tt, (omega arith, (tt, tt))))))

valid_round : (caller round : ℕ) → round < 2 ^ 64 → All IsValid (round_of caller round)
valid_round caller round small =
    let new : IsValid (cmd.New 0 ((caller + round) % 8) false) = (omega arith, omega arith) in
    let hnew : IsValid (cmd.HNew 0 (make_of_round round) 0) =
    (omega arith, valid_makes (round % 6) make.Strong (omega arith), omega arith) in
    let val : IsValid (cmd.Val 0 round) = (omega arith, small) in
    let hget : IsValid (cmd.HGet 1 0) = (omega arith, omega arith) in
    let last = recursion_from_All IsValid (collection_after round) (valid_collection round) in
    All-from_recursion IsValid (round_of caller round)
    (new, (hnew, (val, (hget, (omega arith, (omega arith, (omega arith, (omega arith, last))))))))

valid_rounds : (caller rounds : ℕ) → rounds ≤ 3000 → All IsValid (rounds_of caller rounds)
valid_rounds caller =
    by_rounds (λ rounds. rounds ≤ 3000 → All IsValid (rounds_of caller rounds)) (λ _. All-nil IsValid)
    (λ done before few.
    rw (round_more caller done)
    (All-append IsValid (rounds_of caller done) (round_of caller (done + 1)) (before (omega arith))
    (valid_round caller (done + 1) (omega arith))))

-- ---- the lists of all callers

pub caller_more : (lists : List (Vec Cmd Global)) (list : Vec Cmd Global) (rounds caller : ℕ) →
    contents lists ≡ map (generated_list rounds) (range_with_len 0 caller)
    → list.items ≡ generated_list rounds caller →
    contents (lists ++ list ∷ []) ≡ map (generated_list rounds) (range_with_len 0 (caller + 1))
caller_more lists list rounds caller so_far new =
    map_push (λ (v : Vec Cmd Global). v.items) lists list
    ∙ ap (λ (ls : List (List Cmd)). ls ++ list.items ∷ []) so_far
    ∙ ap (λ (items : List Cmd). map (generated_list rounds) (range_with_len 0 caller) ++ items ∷ []) new
    ∙ sym (map-range_with_len_more (generated_list rounds) 0 caller caller (omega arith))

pub all_callers : (lists : List (List Cmd)) (rounds : ℕ)
    → lists ≡ map (generated_list rounds) (range_with_len 0 4) → lists ≡ generated_lists rounds
unfolding generated_lists
all_callers lists rounds e = e

pub are_lists : (rounds : ℕ) → rounds ≤ 3000 → AreLists (generated_lists rounds)
unfolding generated_lists generated_list
are_lists rounds few =
    let P : List Cmd → Type 0 = λ list. All IsValid list in
    record {
      least = omega arith;
      most = omega arith;
      valid = All-from_recursion P (generated_lists rounds) (
        valid_rounds 0 rounds few,
        (valid_rounds 1 rounds few, (valid_rounds 2 rounds few, (valid_rounds 3 rounds few, tt))),
      );
      total = (let known = rounds_length 0 rounds in
          omega (arith, known, rounds_length 1 rounds, rounds_length 2 rounds, rounds_length 3 rounds));
    }
