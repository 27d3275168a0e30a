-- The counts of the lists of a load, and of a journal whose parts they are.
use Rattle.hd_script.proofs.Basics.{All, All-cons, All-head, All-nil, All-tail, Bool, Chain, Cmd, Entry, List, ROUNDS_TO_COLLECTION, State, Step, [], ap, arith, collection_after, commands_of, cond, cond_both, eqb, false, get_or, get_or-map-range_with_len, is_collect, length, link, load_numbers, make_of_round, part_of, refl, round_of, stay, suc, sum_by, sum_by-append, sum_by-cons, touched_by, true, zero, ℕ, ◌%◌, ◌*◌, ◌+◌, ◌/◌, ◌<◌, ◌∙◌, ◌∷◌, ◌≡◌}
use Rattle.hd_model.specs.Generated.{generated_list, generated_lists}
use Rattle.hd_script.proofs.LoadStep.{bit, written}
use Rattle.hd_script.proofs.LoadRounds.{rounds_of, round_more, by_rounds, collected}
use Rattle.hd_model.specs.declared.command.Cmd.TheVariants as cmd

-- ---- a sum over a journal is one over the parts of its callers

abbrev of_part : (Cmd → ℕ) → List Entry → ℕ → ℕ
of_part f es c = sum_by f (commands_of (part_of es c))

first_of_part : (f : Cmd → ℕ) (e : Entry) (es : List Entry) (c : ℕ)
    → of_part f (e ∷ es) c ≡ cond (eqb e.caller c) (f e.cmd) 0 + of_part f es c
first_of_part f e es c = by (eqb e.caller c)
  where
    by : (b : Bool) → sum_by f (commands_of (cond b (e ∷ part_of es c) (part_of es c)))
        ≡ cond b (f e.cmd) 0 + of_part f es c
    by true = sum_by-cons f e.cmd (commands_of (part_of es c))
    by false = omega arith

picked : (k v : ℕ) → k < 4 → cond (eqb k 0) v 0 + cond (eqb k 1) v 0 + cond (eqb k 2) v 0 + cond (eqb k 3) v
    0 ≡ v
picked zero v h = omega arith
picked (suc zero) v h = omega arith
picked (suc (suc zero)) v h = omega arith
picked (suc (suc (suc zero))) v h = omega arith
picked (suc (suc (suc (suc k)))) v h = absurd (omega arith)

pub by_parts : (f : Cmd → ℕ) (es : List Entry) → All (λ (e : Entry). e.caller < 4) es
    → sum_by (λ (e : Entry). f e.cmd) es ≡ of_part f es 0 + of_part f es 1 + of_part f es 2 + of_part f es 3
by_parts f [] small = refl
by_parts f (e ∷ es) small =
    let known = sum_by-cons (λ (x : Entry). f x.cmd) e es in
    let also = by_parts f es (All-tail (λ (x : Entry). x.caller < 4) e es small) in
    let more = first_of_part f e es 0 in
    let last = first_of_part f e es 1 in
    let finally = picked e.caller (f e.cmd) (All-head (λ (x : Entry). x.caller < 4) e es small) in
    omega (arith, known, also, more, last, first_of_part f e es 2, first_of_part f e es 3, finally)

pub callers_small : {s t : State} {es : List Entry} → Chain (Step load_numbers) s es t
    → All (λ (e : Entry). e.caller < 4) es
callers_small stay = All-nil (λ (e : Entry). e.caller < 4)
callers_small (link {e = e} {es = es} step rest) =
    All-cons (λ (x : Entry). x.caller < 4) e es step.caller (callers_small rest)

-- ---- the lists of a load

pub list_of_caller : (rounds c : ℕ) → c < 4 → get_or (generated_lists rounds) c [] ≡ rounds_of c rounds
unfolding generated_lists generated_list
list_of_caller rounds c small =
    get_or-map-range_with_len (generated_list rounds) 0 4 c c [] small (omega arith)

-- the commands of a round before the collection
abbrev eight : ℕ → ℕ → List Cmd
eight c j =
    cmd.New 0 ((c + j) % 8) false ∷ cmd.HNew 0 (make_of_round j) 0 ∷ cmd.Val 0 j ∷ cmd.HGet 1 0 ∷ cmd.Read 0
    ∷ cmd.Clear 0 ∷ cmd.Clear 1 ∷ cmd.HFree 0 ∷ []

one_round : (f : Cmd → ℕ) (c done : ℕ) → sum_by f (rounds_of c (done + 1))
    ≡ sum_by f (rounds_of c done) + (sum_by f (eight c (done + 1)) + sum_by f
    (collection_after (done + 1)))
one_round f c done =
    ap (sum_by f) (round_more c done) ∙ sum_by-append f (rounds_of c done) (round_of c (done + 1))
    ∙ ap (λ (n : ℕ). sum_by f (rounds_of c done) + n)
    (sum_by-append f (eight c (done + 1)) (collection_after (done + 1)))

-- a collection counts as often as it comes
collection_sum : (f : Cmd → ℕ) (v round : ℕ) → f (cmd.Collect (round % 3)) ≡ v
    → sum_by f (collection_after round) ≡ v * length (collection_after round)
collection_sum f v round e =
    cond_both (eqb (round % ROUNDS_TO_COLLECTION) 0) (cmd.Collect (round % 3) ∷ []) []
    (λ list. sum_by f list ≡ v * length list) (λ h. omega (arith, e)) (λ h. omega arith)

pub collects_in : (c rounds : ℕ)
    → sum_by (λ x. bit (is_collect x)) (rounds_of c rounds) ≡ rounds / ROUNDS_TO_COLLECTION
collects_in c =
    by_rounds (λ rounds. sum_by (λ x. bit (is_collect x)) (rounds_of c rounds)
    ≡ rounds / ROUNDS_TO_COLLECTION) refl
    (λ done before.
    (let known = collection_sum (λ x. bit (is_collect x)) 1 (done + 1) refl in
    omega (arith, one_round (λ x. bit (is_collect x)) c done, before, collected done, known)))

pub news_in : (c rounds : ℕ) → sum_by (λ x. bit (touched_by x).makes_object) (rounds_of c rounds) ≡ rounds
news_in c =
    by_rounds (λ rounds. sum_by (λ x. bit (touched_by x).makes_object) (rounds_of c rounds) ≡ rounds) refl
    (λ done before.
    (let known = collection_sum (λ x. bit (touched_by x).makes_object) 0 (done + 1) refl in
    omega (arith, one_round (λ x. bit (touched_by x).makes_object) c done, before, known)))

next_product : (n : ℕ) → n * (n + 1) + 2 * (n + 1) ≡ (n + 1) * (n + 1 + 1)
next_product n = grind arith

pub written_in : (c rounds : ℕ) → 2 * sum_by written (rounds_of c rounds) ≡ rounds * (rounds + 1)
written_in c =
    by_rounds (λ rounds. 2 * sum_by written (rounds_of c rounds) ≡ rounds * (rounds + 1)) refl (λ done before.
    let more = one_round written c done in
    let none = collection_sum written 0 (done + 1) refl in
    let sum : 2 * sum_by written (rounds_of c (done + 1)) ≡ done * (done + 1) + 2 * (done + 1) =
    omega (arith, more, before, none) in
    sum ∙ next_product done)
