-- The line of a load.
use Rattle.hd_script.proofs.Basics.{Cmd, Entry, Id, List, None, Object, Option, REGISTERS, Slot, State, [], ap, arith, commands_of, count_entries, empty, entries, get_or, get_or-replicate, handle_register_of, handles_are_made_less_freed, is_collect, len, len-empty, len-entries, length, length-replicate, load_numbers, load_text, load_text_of, makes_object, map, nat_cmp, nil_from_length, none-some, part_of, refl, replicate, replicate_cases, size_of, start_is_well_formed, start_of, sum_by, sym, total_size, touched_by, value_returned, ℕ, ◌*◌, ◌+◌, ◌/◌, ◌<◌, ◌∙◌, ◌≡◌, ◌≤◌}
use Rattle.std.proofs.lemmas.List.Folds.{sum_by-replicate}
use Rattle.hd_script.specs.Load.{IsLoadRun, collections_in, line_of_rounds, LoadsHaveTheirLine}
use Rattle.hd_script.proofs.{LoadRounds.rounds_of, LoadRounds.rounds_length, LoadRun.Totals, LoadRun.totals}
use Rattle.hd_script.proofs.LoadPosition.{news, Index, left_at, pending, holding, IsAtIndex, nowhere, at, left_of, Fits}
use Rattle.hd_script.proofs.LoadStep.{bit, written, index}
use Rattle.hd_model.proofs.MemberWeights.{sum_ones}
use Rattle.hd_script.proofs.LoadCount.{by_parts, callers_small, list_of_caller, collects_in, news_in, written_in}

-- ---- the start

nothing_used : total_size (start_of load_numbers) ≡ 0
nothing_used =
    let none : length (entries (empty {X = Object Id} {R = nat_cmp})) ≡ 0 = sym (len-entries empty)
    ∙ len-empty nat_cmp (Object Id) in
    ap (λ (es : List (ℕ × Object Id)). sum_by size_of (map (λ e. e.1) es))
    (nil_from_length (entries (empty {X = Object Id} {R = nat_cmp})) none)

nothing_held : (c : ℕ) → handle_register_of (start_of load_numbers) c 0 ≡ None
nothing_held c =
    replicate_cases (λ (row : List (Option Slot)). get_or row 0 None ≡ None) 4 c (replicate REGISTERS None) []
    (replicate_cases (λ (o : Option Slot). o ≡ None) REGISTERS 0 None None refl refl) refl

index_first : (c j m : ℕ) → IsAtIndex (start_of load_numbers) c (index news j m None)
index_first c j m = record {
  owns = tt;
  held = nothing_held c;
  empty = refl;
  live = λ x h. absurd (none-some x h);
}

abbrev first : ℕ → Index
first rounds = index news 1 rounds None

abbrev all_first : ℕ → List Index
all_first rounds = replicate 4 (first rounds)

fits_first : (rounds : ℕ) → rounds ≤ 3000 → Fits (start_of load_numbers) (all_first rounds)
fits_first rounds few = record {
  four = length-replicate 4 (first rounds);
  well = start_is_well_formed load_numbers;
  room = omega (arith, nothing_used, sum_by-replicate left_of 4 (first rounds));
  at_index = λ c small. replicate_cases (IsAtIndex (start_of load_numbers) c) 4 c (first rounds) nowhere
      (index_first c 1 rounds) (index_first c 0 0);
  apart = λ b c small_b small_c ne x e g.
      none-some x (sym (replicate_cases (λ (p : Index). p.held ≡ None) 4 b (first rounds) nowhere refl refl)
      ∙ e);
}

-- ---- the numbers

module _ (rounds : ℕ) (journal : List Entry) (s : State) (few : rounds ≤ 3000)
    (is : IsLoadRun rounds journal s) where
  part : (c : ℕ) → c < 4 → commands_of (part_of journal c) ≡ rounds_of c rounds
  part c small = is.parts c ∙ list_of_caller rounds c small

  follow : (c : ℕ) → c < 4 → left_at c (at (all_first rounds) c) ≡ commands_of (part_of journal c)
  follow c small = ap (left_at c) (get_or-replicate 4 c (first rounds) nowhere small) ∙ sym (part c small)

  -- a sum over the commands is one over the four lists
  over_lists : (f : Cmd → ℕ) → sum_by (λ (e : Entry). f e.cmd) journal
      ≡ sum_by f (rounds_of 0 rounds) + sum_by f (rounds_of 1 rounds) + sum_by f
      (rounds_of 2 rounds) + sum_by f (rounds_of 3 rounds)
  over_lists f =
      by_parts f journal (callers_small is.run)
      ∙ (λ i. sum_by f (part 0 (omega arith) i) + sum_by f (part 1 (omega arith) i) + sum_by f
      (part 2 (omega arith) i) + sum_by f (part 3 (omega arith) i))

  commands : length journal ≡ 4 * (8 * rounds) + collections_in rounds
  commands =
      omega (
        arith,
        sum_ones journal,
        over_lists (λ _. 1),
        sum_ones (rounds_of 0 rounds),
        sum_ones (rounds_of 1 rounds),
        sum_ones (rounds_of 2 rounds),
        sum_ones (rounds_of 3 rounds),
        rounds_length 0 rounds,
        rounds_length 1 rounds,
        rounds_length 2 rounds,
        rounds_length 3 rounds,
      )

  collections : sum_by (λ (e : Entry). bit (is_collect e.cmd)) journal ≡ collections_in rounds
  collections =
      let known = over_lists (λ x. bit (is_collect x)) in
      let also = collects_in 0 rounds in
      omega (arith, known, also, collects_in 1 rounds, collects_in 2 rounds, collects_in 3 rounds)

  news_in_all : sum_by (λ (e : Entry). bit (touched_by e.cmd).makes_object) journal ≡ 4 * rounds
  news_in_all =
      let known = over_lists (λ x. bit (touched_by x).makes_object) in
      omega (arith, known, news_in 0 rounds, news_in 1 rounds, news_in 2 rounds, news_in 3 rounds)

  written_in_all : sum_by (λ (e : Entry). written e.cmd) journal ≡ 2 * (rounds * (rounds + 1))
  written_in_all =
      let known = written_in 0 rounds in
      omega (arith, over_lists written, known, written_in 1 rounds, written_in 2 rounds, written_in 3 rounds)

  all : Totals journal (all_first rounds)
  all = totals is.run (all_first rounds) (fits_first rounds few) follow

  made : count_entries makes_object journal ≡ 4 * rounds
  made = all.made ∙ news_in_all

  live : len s.handles ≡ 0
  live =
      let known = handles_are_made_less_freed load_numbers journal s is.run in
      omega (arith, known, all.handles, sum_by-replicate holding 4 (first rounds))

  pub returned : sum_by (λ (e : Entry). value_returned e.reply) journal ≡ 2 * rounds * (rounds + 1)
  returned =
      let double : 2 * (rounds * (rounds + 1)) ≡ 2 * rounds * (rounds + 1) = grind arith in
      omega (arith, all.returned, written_in_all, sum_by-replicate pending 4 (first rounds), double)

  sum : sum_by (λ (e : Entry). value_returned e.reply) journal ≡ 4 * (rounds * (rounds + 1) / 2)
  sum =
      let known = written_in 0 rounds in
      let also = written_in 1 rounds in
      let more = written_in 2 rounds in
      let last = sum_by-replicate pending 4 (first rounds) in
      omega (arith, all.returned, over_lists written, known, also, more, written_in 3 rounds, last)

  pub its_line : load_text_of journal s ≡ line_of_rounds rounds
  its_line = λ i. load_text (commands i) (made i) (live i) (collections i) (sum i)

pub loads_have_their_line : LoadsHaveTheirLine
loads_have_their_line rounds journal s some few is = its_line rounds journal s few is
