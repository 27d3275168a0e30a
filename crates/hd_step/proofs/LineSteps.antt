-- What one line does to a dialogue.
use Rattle.std.proofs.Common.{◌≡◌, ℕ, ◌+◌, ◌<◌, ◌≤◌, ◌==◌, ⊎_elim, inl, inr, Bool, true, false, cond, List, [], ◌∷◌, ◌++◌, map, length, set, get_or, Option, Some, None, refl, sym, ap, subst, ◌∙◌, append-nil, append_assoc, arith, length-append, length-set, eqb, eqb-true, ltb, take_all}
use Rattle.std.specs.Prelude.{◌↔◌}
use Rattle.std.proofs.lemmas.Bool.{cases_lt, cond-true, cond-false, le-ltb, lt-ltb}
use Rattle.std.proofs.lemmas.List.{length-map, get_or-set_same, get_or-set_other, map-append, take-append-le}
use Rattle.hd_model.proofs.StepChains.{push}
use Rattle.hd_model.specs.declared.command.Cmd.{Cmd}
use Rattle.hd_model.specs.declared.data.Entry.{Entry}
use Rattle.hd_model.specs.declared.limits.TheConstants.{CALLERS, MOST_COMMANDS}
use Rattle.hd_model.specs.Grammar.{Reading, blank, caller, command, reading_of, words_of}
use Rattle.hd_model.specs.State.{Numbers}
use Rattle.hd_model.specs.Step.{Step}
use Rattle.hd_model.specs.Run.{Run}
use Rattle.hd_model.specs.Text.{lines_of, entry_text}
use Rattle.hd_step.specs.declared.progress.Progress.{Progress}
use Rattle.hd_step.specs.Dialogue.{AreAnswered, Exchange, HasBad, IsAnswered, IsOfRun, Said, after_reading, after_words, exchange_at, is_own, lines_of_all, replies_of_all, reply_in, said_by, turn_of}
use Rattle.hd_step.specs.Inside.{AfterReading, AfterWords, Answered, AreCounts, Called, IsReady, LeftOut, Noted}
use Rattle.hd_step.specs.Machine.{MachineView}
use Rattle.hd_step.specs.Inside.{IsRunBy}
use Rattle.hd_step.proofs.Exchanges.{count_of, count_push, each_push, faulty_before, faulty_last, faulty_more, lines_push, replies_push, said_push}

-- lines were done so far
pub record HasDoneLines (A : MachineView → List (List ℕ) → List ℕ → Type 0) (F : List (List ℕ) → Type 0) (n : Numbers)
    (exchanges : List Exchange) (w : MachineView) (p : Progress) : Type 0 where
  pub ready : IsReady w p
  pub ran : IsRunBy A F n exchanges w
  pub caller : (said_by (lines_of_all exchanges)).caller ≡ p.caller
  pub bad : (p.is_bad ≡ true) ↔ HasBad F exchanges

module _ {A : MachineView → List (List ℕ) → List ℕ → Type 0} {F : List (List ℕ) → Type 0} {n : Numbers}
    {xs : List Exchange} {w : MachineView} {p : Progress} (d : HasDoneLines A F n xs w p) (x : Exchange) where
  abbrev s : Said
  s = said_by (lines_of_all xs)

  abbrev more : List Exchange
  more = xs ++ x ∷ []

  -- answers stay those of a journal that goes on
  answered_more : (journal later : List Entry) → journal ≡ w.journal ++ later
      → (is_own (words_of x.line) ≡ true → IsAnswered A F n journal xs x) → AreAnswered A F n journal more
  answered_more journal later goes last =
      each_push (λ before y. is_own (words_of y.line) ≡ true → IsAnswered A F n journal before y) xs x
      (λ k within is.
      let a = d.ran.answered k within is in
      record {
        machine = a.machine;
        later = a.later ++ later;
        parts = goes ∙ ap (λ (j : List Entry). j ++ later) a.parts
            ∙ append_assoc a.machine.journal a.later later;
        turns = a.turns;
        numbers = a.numbers;
        run = a.run;
        says = a.says;
      }) last

  same_journal : w.journal ≡ w.journal ++ []
  same_journal = sym (append-nil w.journal)

  -- one line more, which says what leads to `t`
  module _ (t : Said) (says : after_words s (words_of x.line) ≡ t) where
    said : said_by (lines_of_all more) ≡ t
    said = said_push xs x ∙ says

    -- what is bad stays what it was, but for an operand of this line
    bad_same : t.left_out ≡ s.left_out → (is_own (words_of x.line) ≡ true → F (words_of x.line) → ⊥)
        → (p.is_bad ≡ true) ↔ HasBad F more
    bad_same left sound = (
      λ is. ⊎_elim (λ out. inl (ap (λ (r : Said). r.left_out) said ∙ left ∙ out))
          (λ has. inr (faulty_more F xs x has)) (d.bad.0 is),
      λ has. d.bad.1 (⊎_elim (λ out. inl (sym left ∙ sym (ap (λ (r : Said). r.left_out) said) ∙ out))
          (λ has. inr (faulty_before F xs x sound has)) has),
    )

    goes_on : (v : MachineView) (q : Progress) → IsReady v q → v.numbers ≡ n → Run n v.journal v.state
        → map turn_of v.journal ≡ t.turns → replies_of_all xs ++ reply_in x ≡ lines_of v.journal
        → AreAnswered A F n v.journal more → t.caller ≡ q.caller → (q.is_bad ≡ true) ↔ HasBad F more
        → HasDoneLines A F n more v q
    goes_on v q ready numbers run turns text answered same bad =
        let turns_are = turns ∙ ap (λ (r : Said). r.turns) (sym said) in
        let text_is = replies_push xs x ∙ text in
        let whole : IsOfRun A F n more = record {
          journal = v.journal;
          state = v.state;
          run = run;
          turns = turns_are;
          text = text_is;
          answered = answered;
        } in
        record {
          ready = ready;
          ran = record {
            numbers = numbers;
            run = run;
            turns = turns_are;
            text = text_is;
            answered = answered;
            throughout = λ k. ⊎_elim
                (λ (past : length xs < k). subst (IsOfRun A F n)
                (sym (take_all k more (omega (arith, past, length-append xs (x ∷ []))))) whole)
                (λ (within : k ≤ length xs). subst (IsOfRun A F n) (sym (take-append-le k xs (x ∷ []) within))
                (d.ran.throughout k))
                (cases_lt (length xs) k);
          };
          caller = ap (λ (r : Said). r.caller) said ∙ same;
          bad = bad;
        }

    -- a line without a reply, after which the machine is as it was
    silent : (q : Progress) → reply_in x ≡ [] → q.counts ≡ p.counts → q.caller < CALLERS → t.turns ≡ s.turns
        → (is_own (words_of x.line) ≡ true → IsAnswered A F n w.journal xs x) → t.caller ≡ q.caller
        → (q.is_bad ≡ true) ↔ HasBad F more → HasDoneLines A F n more w q
    silent q none counts small turns answered same bad =
        goes_on w q
        (record {
          callers = d.ready.callers;
          caller = small;
          slots = ap (λ (c : List ℕ). length c) counts ∙ d.ready.slots;
          counts = subst (AreCounts w.journal) (sym counts) d.ready.counts;
          room = d.ready.room;
        })
        d.ran.numbers d.ran.run (d.ran.turns ∙ sym turns)
        (ap (λ (l : List ℕ). replies_of_all xs ++ l) none ∙ append-nil (replies_of_all xs) ∙ d.ran.text)
        (answered_more w.journal [] same_journal answered) same bad

  true_is_not_false : true ≡ false → ⊥
  true_is_not_false e = grind arith

  -- one of a dialogue's own words
  own : (v : MachineView) (q : Progress) → is_own (words_of x.line) ≡ true
      → Answered A F (words_of x.line) w v p q x.text → HasDoneLines A F n more v q
  own v q is answered =
      subst (λ u. HasDoneLines A F n more u q) (sym answered.machine)
      (silent s says q (cond-true (is_own (words_of x.line)) [] x.text is)
      (ap (λ (r : Progress). r.counts) answered.progress)
      (subst (λ c. c < CALLERS) (sym (ap (λ (r : Progress). r.caller) answered.progress)) d.ready.caller)
      refl
      (λ _. record {
        machine = w;
        later = [];
        parts = same_journal;
        turns = d.ran.turns;
        numbers = d.ran.numbers;
        run = d.ran.run;
        says = ⊎_elim (λ fault. inl (fault.0, fault.2)) (λ fine. inr (fine.0, fine.2)) answered.says;
      })
      (d.caller ∙ sym (ap (λ (r : Progress). r.caller) answered.progress))
      (⊎_elim (λ fault. (λ _. inr (faulty_last F xs x is fault.0), λ _. fault.1))
      (λ fine. subst (λ t. (t ≡ true) ↔ HasBad F more) (sym fine.1) (bad_same s says refl (λ _. fine.0)))
      answered.says))
    where
      says : after_words s (words_of x.line) ≡ s
      says = cond-true (is_own (words_of x.line)) s (after_reading s (reading_of (words_of x.line))) is

  module _ (other : is_own (words_of x.line) ≡ false) where
    reply_is : reply_in x ≡ x.text
    reply_is = cond-false (is_own (words_of x.line)) [] x.text other

    none_own : {B : Type 0} → is_own (words_of x.line) ≡ true → B
    none_own is = absurd (true_is_not_false (sym is ∙ other))

    -- a line that was left out
    left_out : (v : MachineView) (q : Progress)
        → after_words s (words_of x.line) ≡ record s { left_out = true } → LeftOut w v p q x.text
        → HasDoneLines A F n more v q
    left_out v q says left =
        subst (λ u. HasDoneLines A F n more u q) (sym left.machine)
        (subst (λ r. HasDoneLines A F n more w r) (sym left.progress)
        (silent (record s { left_out = true }) says (record p { is_bad = true }) (reply_is ∙ left.silent) refl
        d.ready.caller refl none_own d.caller
        (λ _. inl (ap (λ (r : Said). r.left_out) (said (record s { left_out = true }) says)), λ _. refl)))

    -- a line that says whose commands follow
    noted : (v : MachineView) (q : Progress) (number : ℕ)
        → after_words s (words_of x.line) ≡ record s { caller = number } → Noted number w v p q x.text
        → HasDoneLines A F n more v q
    noted v q number says note =
        subst (λ u. HasDoneLines A F n more u q) (sym note.machine)
        (subst (λ r. HasDoneLines A F n more w r) (sym note.progress)
        (silent (record s { caller = number }) says (record p { caller = number }) (reply_is ∙ note.silent)
        refl note.small refl none_own refl (bad_same (record s { caller = number }) says refl none_own)))

    -- a command that was done
    called : (v : MachineView) (q : Progress) (c : Cmd)
        → after_words s (words_of x.line) ≡ record s { turns = s.turns ++ (s.caller, c) ∷ [] }
        → Called c w v p q x.text → HasDoneLines A F n more v q
    called v q c says call =
        let done = call.done in
        let e = done.entry in
        let number_is : call.number ≡ count_of e.caller w.journal + 1 =
        call.next ∙ ap (λ (k : ℕ). k + 1) (d.ready.counts p.caller d.ready.caller
        ∙ ap (λ (k : ℕ). count_of k w.journal) (sym done.caller_is)) in
        let turn : turn_of e ≡ (s.caller, c) =
        (λ i. ((done.caller_is ∙ sym d.caller) i, done.command_is i)) in
        let t : Said = record s { turns = s.turns ++ (s.caller, c) ∷ [] } in
        subst (λ r. HasDoneLines A F n more v r) (sym call.progress)
        (goes_on t says v
        (record p { counts = set p.counts p.caller call.number })
        (record {
          callers = ap (λ (m : Numbers). m.callers) done.numbers ∙ d.ready.callers;
          caller = d.ready.caller;
          slots = length-set p.counts p.caller call.number ∙ d.ready.slots;
          counts = subst (λ j. AreCounts j (set p.counts p.caller call.number)) (sym done.journal)
              (counted e done.caller_is call.number number_is);
          room = omega (
            arith,
            done.spare,
            d.ready.room,
            ap (λ (j : List Entry). length j) done.journal,
            length-append w.journal (e ∷ []),
          );
        })
        (done.numbers ∙ d.ran.numbers)
        (subst (λ j. Run n j v.state) (sym done.journal)
        (push d.ran.run (subst (λ m. Step m w.state e v.state) d.ran.numbers done.step)))
        (ap (map turn_of) done.journal ∙ map-append turn_of w.journal (e ∷ [])
        ∙ ap (λ (l : List (ℕ × Cmd)). l ++ turn_of e ∷ []) d.ran.turns
        ∙ ap (λ (k : ℕ × Cmd). s.turns ++ k ∷ []) turn)
        (ap (λ (l : List ℕ). replies_of_all xs ++ l) (reply_is ∙ call.line)
        ∙ ap (λ (l : List ℕ). l ++ entry_text e call.number) d.ran.text
        ∙ ap (λ (k : ℕ). lines_of w.journal ++ entry_text e k) number_is
        ∙ sym (ap lines_of done.journal ∙ lines_push w.journal e))
        (answered_more v.journal (e ∷ []) done.journal none_own) d.caller (bad_same t says refl none_own))
      where
        counted : (e : Entry) → e.caller ≡ p.caller → (number : ℕ)
            → number ≡ count_of e.caller w.journal + 1
            → AreCounts (w.journal ++ e ∷ []) (set p.counts p.caller number)
        counted e same number is c small =
            let grows = count_push (λ (o : Entry). o.caller == c) w.journal e in
            by same (eqb e.caller c) refl grows
          where
            by : e.caller ≡ p.caller → (t : Bool) → eqb e.caller c ≡ t → count_of c (w.journal ++ e ∷ [])
                ≡ count_of c w.journal + cond t 1 0
                → get_or (set p.counts p.caller number) c 0 ≡ count_of c (w.journal ++ e ∷ [])
            by its_caller true same grows =
                let its : p.caller ≡ c = sym its_caller ∙ eqb-true e.caller c same in
                subst (λ k. get_or (set p.counts p.caller number) k 0 ≡ count_of c (w.journal ++ e ∷ [])) its
                (get_or-set_same p.counts p.caller number 0 (omega (arith, d.ready.slots, d.ready.caller))
                ∙ is ∙ ap (λ (k : ℕ). count_of k w.journal + 1) (eqb-true e.caller c same) ∙ sym grows)
            by its_caller false apart grows =
                get_or-set_other p.counts p.caller c number 0
                (λ is_c. grind (arith, apart, its_caller, is_c))
                ∙ d.ready.counts c small ∙ omega (arith, grows)

    -- by the reading of the line
    by_reading : (v : MachineView) (q : Progress) (r : Option Reading)
        → after_words s (words_of x.line) ≡ after_reading s r → AfterReading r w v p q x.text
        → HasDoneLines A F n more v q
    by_reading v q None says left = left_out v q says left
    by_reading v q (Some blank) says note =
        noted v q p.caller (says ∙ ap (λ (k : ℕ). record s { caller = k }) d.caller) note
    by_reading v q (Some (caller number)) says note = noted v q number says note
    by_reading v q (Some (command c)) says commanded =
        let turns_are : length s.turns ≡ length w.journal =
        sym (ap (λ (l : List (ℕ × Cmd)). length l) d.ran.turns) ∙ length-map w.journal turn_of in
        ⊎_elim
        (λ (some : 0 < w.spare). called v q c
        (says ∙ cond-true (ltb (length s.turns) MOST_COMMANDS)
        (record s { turns = s.turns ++ (s.caller, c) ∷ [] }) (record s { left_out = true })
        (lt-ltb (length s.turns) MOST_COMMANDS (omega (arith, turns_are, d.ready.room, some))))
        (commanded.done some))
        (λ (none : w.spare ≤ 0). left_out v q
        (says ∙ cond-false (ltb (length s.turns) MOST_COMMANDS)
        (record s { turns = s.turns ++ (s.caller, c) ∷ [] }) (record s { left_out = true })
        (le-ltb (length s.turns) MOST_COMMANDS (omega (arith, turns_are, d.ready.room, none))))
        (commanded.full (omega (arith, none))))
        (cases_lt 0 w.spare)

  -- by the words of the line
  pub line_done : (v : MachineView) (q : Progress) → AfterWords A F (words_of x.line) w v p q x.text
      → HasDoneLines A F n more v q
  line_done v q after = by (is_own (words_of x.line)) refl
    where
      by : (t : Bool) → is_own (words_of x.line) ≡ t → HasDoneLines A F n more v q
      by true is = own v q is (after.own is)
      by false is =
          by_reading is v q (reading_of (words_of x.line))
          (cond-false (is_own (words_of x.line)) s (after_reading s (reading_of (words_of x.line))) is)
          (after.other is)
