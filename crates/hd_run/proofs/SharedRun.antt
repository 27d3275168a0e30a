-- The callers of a shared world once each has gone through its list: what they did is one run.
use Rattle.hd_run.proofs.Basics.{All, All-cons, All-nil, All-weaker, Any, AreAll, Begin, Bool, CALLERS, CallerView, Chain, Cmd, Entry, HasFewCallers, HasParts, HasPlayed, HavePlayed, IsReadyToPlay, List, MatchBool, MayRunOut, Numbers, RanAllTogether, Run, RunCause, State, StoppedTogether, WorldView, [], ap, arith, cases_lt, commands_of, drop, drop_all, false, get_or-map, get_or_past, in_threads, inl, inr, length, length-map, link, list_of, map, nil_from_length, part_of, refl, run_ending, slice_index_or, stay, subst, sym, true, ℕ, ◌++◌, ◌<◌, ◌∙◌, ◌∷◌, ◌≡◌, ◌≤◌}
use Rattle.hd_model.specs.Step.{Step}
use Rattle.hd_custody.specs.Views.{Named}
use Rattle.hd_run.specs.declared.ending.Ran.TheVariants as ran

-- an element of a list that has one
some_of : {X : Type 0} (xs : List X) (c : ℕ) → c < length xs → X
some_of [] c lt = absurd (omega arith)
some_of (x ∷ xs) c lt = x

-- what comes after a prefix
drop_prefix : {X : Type 0} (xs ys : List X) → drop (length xs) (xs ++ ys) ≡ ys
drop_prefix [] ys = refl
drop_prefix (x ∷ xs) ys = drop_prefix xs ys

length-commands : (es : List Entry) → length (commands_of es) ≡ length es
length-commands es = length-map es (λ (e : Entry). e.cmd)

-- each caller of a run is one of its numbers
run_callers : {n : Numbers} {s t : State} {es : List Entry} → Chain (Step n) s es t →
    All (λ (e : Entry). e.caller < n.callers) es
run_callers {n} stay = All-nil (λ (e : Entry). e.caller < n.callers)
run_callers {n} (link {e = e} {es = es} step more) =
    All-cons (λ (e : Entry). e.caller < n.callers) e es step.caller (run_callers more)

pub few_callers : (n : Numbers) (journal : List Entry) (s : State) → n.callers ≤ CALLERS →
    Run n journal s → HasFewCallers journal
few_callers n journal s few run =
    All-weaker (λ (e : Entry). e.caller < n.callers) (λ (e : Entry). e.caller < CALLERS)
    (λ e lt. omega arith) journal (run_callers run)

module _ (s : Named) (lists : List (List Cmd)) (before : List CallerView)
    (as_many : s.numbers.callers ≡ length lists) (all : AreAll s before)
    (begin : Begin (map length lists) before) where
  pub ready : All (IsReadyToPlay s lists) before
  ready c d lt =
      let number = all.in_order c d lt in
      let known : c < length lists = omega (arith, all.count, as_many) in
      record {
        is_of = all.each c d lt;
        known = omega (arith, number);
        part = begin.parts c d lt;
        room = begin.rooms c d lt ∙ get_or-map length lists c [] 0 known
            ∙ ap (λ k. length (list_of lists k)) (sym number);
      }

  module _ (after : List CallerView) (play : HavePlayed lists before after) where
    same_length : length after ≡ length before
    same_length = play.count

    played : (c : ℕ) (d : CallerView) → c < length before →
        HasPlayed (list_of lists (slice_index_or before c d).number) (slice_index_or before c d)
        (slice_index_or after c d)
    played = play.each

    pub still : AreAll s after
    still = record {
      count = same_length ∙ all.count;
      each = λ c d lt.
          let within : c < length before = omega (arith, same_length) in
          let p = played c d within in
          record {
            table = p.same.table ∙ (all.each c d within).table;
            numbers = p.same.numbers ∙ (all.each c d within).numbers;
          };
      in_order = λ c d lt.
          let within : c < length before = omega (arith, same_length) in
          (played c d within).same.number ∙ all.in_order c d within;
    }

    module _ (w : WorldView) (has_parts : HasParts after w.journal) where
      -- what is left of a caller's list after its part
      abbrev left : ℕ → List Cmd
      left c = drop (length (part_of w.journal c)) (list_of lists c)

      -- a caller's play, in the words of the journal
      pub record Did (c : ℕ) (p : CallerView) : Type 0 where
        pub parts : list_of lists c ≡ commands_of (part_of w.journal c) ++ left c
        pub room : length (left c) ≡ p.room
        pub wants : MayRunOut (left c)

      did : (c : ℕ) (d : CallerView) → c < length after → Did c (slice_index_or after c d)
      did c d lt =
          let within : c < length before = omega (arith, same_length) in
          let number = all.in_order c d within in
          let p = subst (λ k. HasPlayed (list_of lists k) (slice_index_or before c d)
          (slice_index_or after c d))
          number (played c d within) in
          let part = has_parts.each c d lt in
          let split : list_of lists c ≡ commands_of (part_of w.journal c) ++ p.left =
          p.parts ∙ ap (λ es. commands_of es ++ p.left) (sym part) in
          let rest : left c ≡ p.left =
          ap (λ v. drop (length (part_of w.journal c)) v) split
          ∙ ap (λ k. drop k (commands_of (part_of w.journal c) ++ p.left))
          (sym (length-commands (part_of w.journal c)))
          ∙ drop_prefix (commands_of (part_of w.journal c)) p.left in
          record {
            parts = split ∙ ap (λ v. commands_of (part_of w.journal c) ++ v) (sym rest);
            room = ap length rest ∙ p.room;
            wants = subst MayRunOut (sym rest) p.wants;
          }

      -- nobody else has a list, or left anything of it
      no_list : (c : ℕ) → length after ≤ c → list_of lists c ≡ []
      no_list c ge = get_or_past lists c [] (omega (arith, same_length, all.count, as_many))

      nothing_left : (c : ℕ) → length after ≤ c → left c ≡ []
      nothing_left c ge = ap (λ v. drop (length (part_of w.journal c)) v) (no_list c ge)
          ∙ drop_all (length (part_of w.journal c)) [] (omega arith)

      split_at : (c : ℕ) → list_of lists c ≡ commands_of (part_of w.journal c) ++ left c
      split_at c = elim (cases_lt c (length after)) [
        | inl lt ↦ (did c (some_of after c lt) lt).parts
        | inr ge ↦ no_list c ge
            ∙ (λ i. commands_of (sym (has_parts.others c ge) i) ++ sym (nothing_left c ge) i)
      ]

      wants_at : (c : ℕ) → MayRunOut (left c)
      wants_at c = elim (cases_lt c (length after)) [
        | inl lt ↦ (did c (some_of after c lt) lt).wants
        | inr ge ↦ subst MayRunOut (sym (nothing_left c ge)) tt
      ]

      module _ (n : Numbers) (numbers : w.numbers ≡ n) (run : Run w.numbers w.journal w.state) where
        as_run : Run n w.journal w.state
        as_run = subst (λ (m : Numbers). Run m w.journal w.state) numbers run

        pub stopped : Any (λ (p : CallerView). 1 ≤ p.room) after → StoppedTogether n lists w
        stopped some = record {
          left = left;
          ran = record { numbers = numbers; run = as_run; parts = split_at };
          some = (
            some.0,
            λ none.
                let here = did some.0 some.1 some.2 in
                let room : (slice_index_or after some.0 some.1).room ≡ some.1.room = ap
                (λ (p : CallerView). p.room) some.3 in
                absurd (omega (arith, ap length none, here.room, room, some.4)),
          );
          wants = wants_at;
        }

        all_done : All (λ (p : CallerView). p.room ≡ 0) after → (c : ℕ) → left c ≡ []
        all_done done c = elim (cases_lt c (length after)) [
          | inl lt ↦
              let d = some_of after c lt in
              nil_from_length (left c) ((did c d lt).room ∙ done c d lt)
          | inr ge ↦ nothing_left c ge
        ]

        pub whole : All (λ (p : CallerView). p.room ≡ 0) after → RanAllTogether n lists w
        whole done = record {
          numbers = numbers;
          run = as_run;
          parts = λ c. split_at c ∙ ap (λ v. commands_of (part_of w.journal c) ++ v) (all_done done c);
        }

        pub together_cause : (done : Bool) → MatchBool done (All (λ (p : CallerView). p.room ≡ 0) after)
            (Any (λ (p : CallerView). 1 ≤ p.room) after) → RunCause in_threads n lists
            (run_ending done (ran.Shared w))
        together_cause true all = (whole all, refl)
        together_cause false some = stopped some
