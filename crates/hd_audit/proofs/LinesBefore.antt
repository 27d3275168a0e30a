-- What is known after some lines of a text, and which line may come then.
use Rattle.std.proofs.Common.{List, Some, [], ap, append-nil, append_assoc, arith, cond, drop, false, get_or, length, length-append, refl, slice_get, subst, sym, take, true, ℕ, ⊎_elim, ◌++◌, ◌+◌, ◌-◌, ◌<◌, ◌∙◌, ◌∷◌, ◌≡◌, ◌≤◌}
use Rattle.std.specs.Prelude.{Bool, ◌↔◌}
use mathlib.Core.Logic.{inl, inr}
use Rattle.std.proofs.lemmas.Bool.{cases_lt, true≢false}
use Rattle.std.proofs.lemmas.List.{same_from_push, take-take}
use Rattle.std.specs.FinMap.{len}
use Rattle.hd_model.specs.declared.command.Cmd.{Cmd}
use Rattle.hd_model.specs.FullText.{full_lines}
use Rattle.hd_model.specs.RunTexts.{AreRight, cut_lines, list_of}
use Rattle.hd_model.specs.State.{Numbers}
use Rattle.hd_model.specs.Text.{end_text, is_collect}
use Rattle.hd_print.proofs.JudgedRuns.{one_run}
use Rattle.hd_print.proofs.RightLines.{right_take}
use Rattle.hd_audit.specs.declared.lines.Progress.{Progress}
use Rattle.hd_audit.specs.Before.{IsBefore, IsEntryLine, MayCome, OneStateBefore, end_after}
use Rattle.hd_audit.specs.Known.{Known, known_of}
use Rattle.hd_audit.specs.Inside.{Along, TakesLine}
use Rattle.hd_audit.proofs.LinesSoFar.{IsAt, right_follows}
use Rattle.hd_audit.proofs.JudgedLines.{NextEntry, end_only, ends_right, judged_more, left_of, next_entry, next_left, right_so_far}
use Rattle.hd_audit.proofs.LineVerdicts.{none_after, none_ends, take_of, take_one}

-- ---- the lines that may come

module _ (lists : List (List Cmd)) (j : Progress) (rest : List ℕ) (lines : List (List ℕ))
    (along : Along lists j lines) where
  -- where a command is due, something is left
  due_left : (c : ℕ) (cmd : Cmd) → c < j.machine.numbers.callers
      → slice_get (list_of lists c) (get_or j.done.items c 0) ≡ Some cmd → 0 < j.left
  due_left c cmd known due =
      ⊎_elim (λ some. some)
      (λ none. let zero : j.left ≡ 0 = omega (arith, none) in
      let both = sym (left_of along zero c) ∙ next_left along c cmd known due in
      absurd (omega (arith, ap (λ (l : List Cmd). length l) both))) (cases_lt 0 j.left)

  entry_right : (ended : Bool) (line : List ℕ) → IsEntryLine (known_of lists j ended rest) line
      → AreRight j.machine.numbers lists (lines ++ line ∷ [])
  entry_right ended line e =
      let some = due_left e.entry.caller e.entry.cmd e.step.caller e.due in
      right_so_far (judged_more along e.entry e.after line e.step e.due e.text (j.left - 1)
      (j.collections + cond (is_collect e.entry.cmd) 1 0) (omega (arith, some)) refl)

  of_next : (line : List ℕ) → NextEntry j.machine.numbers lists j.machine.state j.done.items line
      → IsEntryLine (known_of lists j false rest) line
  of_next line e =
      record { entry = e.entry; after = e.after; step = e.step; due = e.is_next; text = e.is_line }

  -- before the end line
  going_next : (line : List ℕ)
      → AreRight j.machine.numbers lists (lines ++ line ∷ []) ↔ MayCome (known_of lists j false rest) line
  going_next line = (there, back)
    where
      there : AreRight j.machine.numbers lists (lines ++ line ∷ [])
          → MayCome (known_of lists j false rest) line
      there right =
          ⊎_elim (λ some. inl (of_next line (next_entry along line some right)))
          (λ none. let zero : j.left ≡ 0 = omega (arith, none) in
          inr (record { going = refl; none = zero; text = end_only along line zero right }))
          (cases_lt 0 j.left)

      back : MayCome (known_of lists j false rest) line
          → AreRight j.machine.numbers lists (lines ++ line ∷ [])
      back (inl e) = entry_right false line e
      back (inr last) = ends_right along line last.none last.text

  before_going : IsBefore j.machine.numbers lists lines (known_of lists j false rest)
  before_going = record {
    numbers = refl;
    lists_are = refl;
    few_callers = along.few_callers;
    few_blocks = along.few_blocks;
    journal = along.journal;
    rest = along.rest;
    along = along.along;
    lines_are = along.lines_are ∙ sym (append-nil (full_lines along.journal));
    each_rest = along.each_rest;
    counts = along.counts;
    left_is = along.left_is;
    collected = along.collected;
    next = going_next;
  }

  -- after the end line
  module _ (last : List ℕ) (zero : j.left ≡ 0) (is : last ≡ end_after (known_of lists j true rest)) where
    ended_next : (line : List ℕ)
        → AreRight j.machine.numbers lists ((lines ++ last ∷ []) ++ line ∷ [])
        ↔ MayCome (known_of lists j true rest) line
    ended_next line = (there, back)
      where
        there : AreRight j.machine.numbers lists ((lines ++ last ∷ []) ++ line ∷ [])
            → MayCome (known_of lists j true rest) line
        there right =
            absurd (none_after j.machine.numbers lists lines last line (len j.machine.state.handles)
            (len j.machine.state.objects) j.collections is right)

        back : MayCome (known_of lists j true rest) line
            → AreRight j.machine.numbers lists ((lines ++ last ∷ []) ++ line ∷ [])
        back (inl e) =
            let some = due_left e.entry.caller e.entry.cmd e.step.caller e.due in
            absurd (omega (arith, some, zero))
        back (inr end) = absurd (true≢false end.going)

    before_ended : IsBefore j.machine.numbers lists (lines ++ last ∷ []) (known_of lists j true rest)
    before_ended = record {
      numbers = refl;
      lists_are = refl;
      few_callers = along.few_callers;
      few_blocks = along.few_blocks;
      journal = along.journal;
      rest = along.rest;
      along = along.along;
      lines_are = λ i. along.lines_are i ++ is i ∷ [];
      each_rest = along.each_rest;
      counts = along.counts;
      left_is = along.left_is;
      collected = along.collected;
      next = ended_next;
    }

-- ---- line by line

drop_of : (xs ys : List (List ℕ)) → drop (length xs) (xs ++ ys) ≡ ys
drop_of [] ys = refl
drop_of (x ∷ xs) ys = drop_of xs ys

module _ {n : Numbers} {lists : List (List Cmd)} {j : Progress} {bytes : List ℕ} {count : ℕ} (most : ℕ) where
  pub some_rest : (rest : List ℕ) → IsAt n lists j bytes rest count → count < most
      → most ≤ length (cut_lines bytes) → 0 < length rest
  some_rest [] at less within =
      let all = ap (λ (l : List (List ℕ)). length l) at.cut ∙ length-append at.lines [] in
      absurd (omega (arith, all, at.count_is, less, within))
  some_rest (b ∷ rest) at less within = omega arith

  module _ {rest : List ℕ} (at : IsAt n lists j bytes rest count) where
    all_lines : most ≡ count → take most (cut_lines bytes) ≡ at.lines
    all_lines same = (λ i. take ((same ∙ sym at.count_is) i) (at.cut i)) ∙ take_of at.lines (cut_lines rest)

    -- all lines are behind
    pub all_behind : most ≡ count → IsBefore n lists (take most (cut_lines bytes))
        (known_of lists j false rest)
    all_behind same =
        subst (λ m. IsBefore m lists (take most (cut_lines bytes)) (known_of lists j false rest)) at.numbers
        (subst (λ l. IsBefore j.machine.numbers lists l (known_of lists j false rest)) (sym (all_lines same))
        (before_going lists j rest at.lines at.along))

    module _ (less : count < most) (right : AreRight n lists (take most (cut_lines bytes)))
        (line after : List ℕ) (next : cut_lines rest ≡ line ∷ cut_lines after) where
      split : cut_lines bytes ≡ at.lines ++ line ∷ cut_lines after
      split = at.cut ∙ ap (λ (l : List (List ℕ)). at.lines ++ l) next

      first_of : take (count + 1) (cut_lines bytes) ≡ at.lines ++ line ∷ []
      first_of =
          (λ i. take (sym at.count_is i + 1) (split i)) ∙ take_one at.lines (cut_lines after) line

      -- the next line is right
      next_right : AreRight n lists (at.lines ++ line ∷ [])
      next_right =
          subst (AreRight n lists)
          (take-take (count + 1) most (cut_lines bytes) (omega (arith, less)) ∙ first_of)
          (right_take n lists (count + 1) (take most (cut_lines bytes)) right)

      next_of_judge : AreRight j.machine.numbers lists (at.lines ++ line ∷ [])
      next_of_judge = subst (λ m. AreRight m lists (at.lines ++ line ∷ [])) (sym at.numbers) next_right

      -- and so the judge takes it
      pub taken : (new : Progress) (result : Bool) → TakesLine lists j line new result
          → IsAt n lists new bytes after (count + 1)
      taken new true took = right_follows at line after next new took
      taken new false none = absurd (none at.lines at.along next_of_judge)

      -- where nothing is left it is the end line, and the last one
      module _ (zero : j.left ≡ 0) where
        last_is : line ≡ end_text (len j.machine.state.handles) (len j.machine.state.objects) j.collections
        last_is = end_only at.along line zero next_of_judge

        no_second : (other : List ℕ) (others : List (List ℕ)) → cut_lines after ≡ other ∷ others
            → count + 1 < most → ⊥
        no_second other others follows more =
            none_after n lists at.lines line other (len j.machine.state.handles)
            (len j.machine.state.objects) j.collections last_is
            (subst (AreRight n lists)
            (take-take (count + 2) most (cut_lines bytes) (omega (arith, more)) ∙ second)
            (right_take n lists (count + 2) (take most (cut_lines bytes)) right))
          where
            number : count + 2 ≡ length (at.lines ++ line ∷ []) + 1
            number = omega (arith, length-append at.lines (line ∷ []), at.count_is)

            longer : cut_lines bytes ≡ (at.lines ++ line ∷ []) ++ other ∷ others
            longer =
                split ∙ ap (λ (l : List (List ℕ)). at.lines ++ line ∷ l) follows
                ∙ sym (append_assoc at.lines (line ∷ []) (other ∷ others))

            second : take (count + 2) (cut_lines bytes) ≡ (at.lines ++ line ∷ []) ++ other ∷ []
            second =
                (λ i. take (number i) (longer i)) ∙ take_one (at.lines ++ line ∷ []) others other

        is_last : most ≤ length (cut_lines bytes) → most ≡ count + 1
        is_last within =
            ⊎_elim (λ more. absurd (by (cut_lines after) refl more))
            (λ few. omega (arith, few, less)) (cases_lt (count + 1) most)
          where
            by : (others : List (List ℕ)) → cut_lines after ≡ others → count + 1 < most → ⊥
            by [] none more =
                let all = ap (λ (l : List (List ℕ)). length l)
                (split ∙ ap (λ (l : List (List ℕ)). at.lines ++ line ∷ l) none)
                ∙ length-append at.lines (line ∷ []) in
                omega (arith, all, at.count_is, more, within)
            by (other ∷ others) follows more = no_second other others follows more

        pub ended_behind : most ≤ length (cut_lines bytes)
            → IsBefore n lists (take most (cut_lines bytes)) (known_of lists j true after)
        ended_behind within =
            let same = is_last within in
            subst (λ m. IsBefore m lists (take most (cut_lines bytes))
            (known_of lists j true after)) at.numbers
            (subst (λ l. IsBefore j.machine.numbers lists l (known_of lists j true after))
            (sym (ap (λ k. take k (cut_lines bytes)) same ∙ first_of))
            (before_ended lists j after at.lines at.along line zero last_is))

        pub rest_ended : most ≤ length (cut_lines bytes) → cut_lines after ≡ drop most (cut_lines bytes)
        rest_ended within =
            let pushed : cut_lines bytes ≡ (at.lines ++ line ∷ []) ++ cut_lines after =
            split ∙ sym (append_assoc at.lines (line ∷ []) (cut_lines after)) in
            let number : most ≡ length (at.lines ++ line ∷ []) =
            omega (arith, is_last within, length-append at.lines (line ∷ []), at.count_is) in
            sym ((λ i. drop (number i) (pushed i)) ∙ drop_of (at.lines ++ line ∷ []) (cut_lines after))

-- ---- after the same lines there is one state

module _ (n : Numbers) (lists : List (List Cmd)) (lines : List (List ℕ)) (j k : Known)
    (a : IsBefore n lists lines j) (b : IsBefore n lists lines k) where
  same_lines : (x y : Bool)
      → full_lines a.journal ++ cond x (end_after j ∷ []) []
      ≡ full_lines b.journal ++ cond y (end_after k ∷ []) []
      → full_lines a.journal ≡ full_lines b.journal
  same_lines false false e =
      sym (append-nil (full_lines a.journal)) ∙ e ∙ append-nil (full_lines b.journal)
  same_lines true true e =
      (same_from_push (full_lines a.journal) (full_lines b.journal) (end_after j) (end_after k) e).0
  same_lines true false e =
      absurd (none_ends [] b.journal (full_lines a.journal) [] (len j.state.handles) (len j.state.objects)
      j.collections (sym (e ∙ append-nil (full_lines b.journal))))
  same_lines false true e =
      absurd (none_ends [] a.journal (full_lines b.journal) [] (len k.state.handles) (len k.state.objects)
      k.collections (sym (append-nil (full_lines a.journal)) ∙ e))

  one_state : j.state ≡ k.state
  one_state =
      let callers = a.few_callers in
      let blocks = a.few_blocks in
      (one_run (omega (arith, callers)) (omega (arith, blocks)) a.along b.along
      (same_lines j.ended k.ended (sym a.lines_are ∙ b.lines_are))).1

pub one_state_before : OneStateBefore
one_state_before n lists lines j k a b = one_state n lists lines j k a b
