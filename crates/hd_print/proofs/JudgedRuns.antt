-- A run along the lists is determined by its full lines.
use Rattle.hd_print.proofs.Basics.{Entry, List, [], ap, append-nil, append_assoc, arith, count_by, drop, get_or, length, length-append, numbered_after, refl, subst, sym, ℕ, ⊎_elim, ◌++◌, ◌+◌, ◌<◌, ◌==◌, ◌^◌, ◌∙◌, ◌∷◌, ◌≡◌}
use Rattle.std.specs.Prelude.{cond}
use Rattle.std.proofs.{lemmas.Bool.eq-eqb, lemmas.Bool.ne_eqb, lemmas.Bool.cases_eq, lemmas.List.map-append, lemmas.List.same_from_push, lemmas.List.Elements.filter-append}
use Rattle.hd_model.specs.declared.command.Cmd.{Cmd}
use Rattle.hd_model.specs.State.{Numbers, State, start_of}
use Rattle.hd_model.specs.Step.{Step}
use Rattle.hd_model.specs.Run.{Chain, stay, link, part_of, commands_of}
use Rattle.hd_model.specs.FullText.{full_line, full_lines, end_of}
use Rattle.hd_model.specs.RunTexts.{list_of, GoesAlong, IsWhole, AreRight, so_far, at_the_end}
use Rattle.hd_model.specs.WellFormed.{IsWellFormed}
use Rattle.hd_model.proofs.{OneState.one_state_after, StepChains.push, WellFormedSteps.step_keeps, WellFormedSteps.start_is_well_formed}
use Rattle.hd_print.proofs.LineEndings.{numeral_determines}
use Rattle.hd_print.proofs.StepLines.{one_entry, line_parts}

-- the number of the next line of a caller
abbrev pub next_number : ℕ → List Entry → ℕ
next_number caller before = count_by (λ (other : Entry). other.caller == caller) before + 1

-- the commands of a caller's part
abbrev pub own : List Entry → ℕ → List Cmd
own entries caller = commands_of (part_of entries caller)

own_here : (e : Entry) (es : List Entry) (c : ℕ) → c ≡ e.caller → own (e ∷ es) c ≡ e.cmd ∷ own es c
own_here e es c same =
    ap (λ b. commands_of (cond b (e ∷ part_of es c) (part_of es c))) (eq-eqb e.caller c (sym same))

own_apart : (e : Entry) (es : List Entry) (c : ℕ) → (c ≡ e.caller → ⊥) → own (e ∷ es) c ≡ own es c
own_apart e es c other =
    ap (λ b. commands_of (cond b (e ∷ part_of es c) (part_of es c)))
    (ne_eqb e.caller c (λ same. other (sym same)))

pub own-append : (xs ys : List Entry) (c : ℕ) → own (xs ++ ys) c ≡ own xs c ++ own ys c
own-append xs ys c =
    ap commands_of (filter-append (λ (e : Entry). e.caller == c) xs ys)
    ∙ map-append (λ (e : Entry). e.cmd) (part_of xs c) (part_of ys c)

-- ---- two runs with the same lines

-- the callers of lines that are the same
same_callers : (n : Numbers) (s t u : State) (d e : Entry) (i j : ℕ) → n.callers < 2 ^ 64 → Step n s d t
    → Step n s e u → full_line d i ≡ full_line e j → d.caller ≡ e.caller
same_callers n s t u d e i j few a b same =
    let known_d = a.caller in
    let known_e = b.caller in
    (numeral_determines d.caller e.caller _ _ (omega arith) (omega arith) refl refl
    (sym (line_parts d i) ∙ same ∙ line_parts e j)).0

module _ (n : Numbers) (callers : n.callers < 2 ^ 64) (blocks : n.blocks < 2 ^ 32) where
  -- after the same entries, two steps with the same commands to come and the same lines
  module _ (before : List Entry) (s a b : State) (d e : Entry) (xs ys : List Entry) (w : IsWellFormed n s)
      (step : Step n s d a) (other_step : Step n s e b) (left other : ℕ → List Cmd)
      (parts : (c : ℕ) → own (d ∷ xs) c ++ left c ≡ own (e ∷ ys) c ++ other c)
      (lines : numbered_after full_line before (d ∷ xs) ≡ numbered_after full_line before (e ∷ ys)) where
    heads : full_line d (next_number d.caller before) ≡ full_line e (next_number e.caller before)
    heads = ap (λ (l : List (List ℕ)). get_or l 0 []) lines

    same_caller : d.caller ≡ e.caller
    same_caller = same_callers n s a b d e _ _ callers step other_step heads

    here : d.cmd ∷ (own xs e.caller ++ left e.caller) ≡ e.cmd ∷ (own ys e.caller ++ other e.caller)
    here = ap (λ (l : List Cmd). l ++ left e.caller) (sym (own_here d xs e.caller (sym same_caller)))
        ∙ parts e.caller ∙ ap (λ (l : List Cmd). l ++ other e.caller) (own_here e ys e.caller refl)

    same_entry : d ≡ e
    same_entry = one_entry n s d e a b (next_number e.caller before) w blocks step other_step same_caller
        (ap (λ (l : List Cmd). get_or l 0 d.cmd) here)
        (ap (λ c. full_line d (next_number c before)) (sym same_caller) ∙ heads)

    same_state : a ≡ b
    same_state = one_state_after n s a b e (subst (λ x. Step n s x a) same_entry step) other_step

    parts_after : (c : ℕ) → own xs c ++ left c ≡ own ys c ++ other c
    parts_after c = ⊎_elim (λ same. subst (λ k. own xs k ++ left k ≡ own ys k ++ other k) (sym same)
        (ap (drop 1) here))
        (λ apart. ap (λ (l : List Cmd). l ++ left c)
        (sym (own_apart d xs c (λ same. apart (same ∙ same_caller)))) ∙ parts c
        ∙ ap (λ (l : List Cmd). l ++ other c) (own_apart e ys c apart)) (cases_eq c e.caller)

    lines_after : numbered_after full_line (before ++ e ∷ []) xs
        ≡ numbered_after full_line (before ++ e ∷ []) ys
    lines_after =
        ap (λ x. numbered_after full_line (before ++ x ∷ []) xs) (sym same_entry) ∙ ap (drop 1) lines

  -- so they are the same to their ends
  one_rest : (before : List Entry) {s t u : State} {xs ys : List Entry} → IsWellFormed n s
      → Chain (Step n) s xs t → Chain (Step n) s ys u → (left other : ℕ → List Cmd)
      → ((c : ℕ) → own xs c ++ left c ≡ own ys c ++ other c)
      → numbered_after full_line before xs ≡ numbered_after full_line before ys → (xs ≡ ys) × (t ≡ u)
  one_rest before w stay stay left other parts lines = (refl, refl)
  one_rest before w stay (link step rest) left other parts lines =
      absurd (omega (arith, ap (λ (l : List (List ℕ)). length l) lines))
  one_rest before w (link step rest) stay left other parts lines =
      absurd (omega (arith, ap (λ (l : List (List ℕ)). length l) lines))
  one_rest before {s = s} {t = t} {u = u} w (link {t = a} {e = d} {es = xs} step rest)
      (link {t = b} {e = e} {es = ys} other_step others) left other parts lines =
      let entries = same_entry before s a b d e xs ys w step other_step left other parts lines in
      let states = same_state before s a b d e xs ys w step other_step left other parts lines in
      let tails = one_rest (before ++ e ∷ []) (step_keeps n s b e w other_step)
      (subst (λ x. Chain (Step n) x xs t) states rest) others left other
      (parts_after before s a b d e xs ys w step other_step left other parts lines)
      (lines_after before s a b d e xs ys w step other_step left other parts lines) in
      (λ i. entries i ∷ tails.0 i, tails.1)

-- a run along the lists is determined by its full lines
pub one_run : {n : Numbers} {lists : List (List Cmd)} {j k : List Entry} {s t : State}
    {left other : ℕ → List Cmd} → n.callers < 2 ^ 64 → n.blocks < 2 ^ 32 → GoesAlong n lists j s left
    → GoesAlong n lists k t other → full_lines j ≡ full_lines k → (j ≡ k) × (s ≡ t)
one_run {n} {left = left} {other = other} callers blocks a b lines =
    one_rest n callers blocks [] (start_is_well_formed n) a.run b.run left other
    (λ c. sym (a.parts c) ∙ b.parts c) lines

-- ---- one line more

-- the lines of entries and one more
numbered_more : {A : Type 0} (make : Entry → ℕ → A) (before xs : List Entry) (e : Entry)
    → numbered_after make before (xs ++ e ∷ [])
    ≡ numbered_after make before xs ++ make e (next_number e.caller (before ++ xs)) ∷ []
numbered_more make before [] e =
    ap (λ (b : List Entry). make e (next_number e.caller b) ∷ []) (sym (append-nil before))
numbered_more make before (x ∷ xs) e =
    ap (λ l. make x (next_number x.caller before) ∷ l) (numbered_more make (before ++ x ∷ []) xs e
    ∙ ap (λ (b : List Entry). numbered_after make (before ++ x ∷ []) xs
    ++ make e (next_number e.caller b) ∷ [])
    (append_assoc before (x ∷ []) xs))

pub lines_more : (journal : List Entry) (e : Entry)
    → full_lines (journal ++ e ∷ []) ≡ full_lines journal ++ full_line e (next_number e.caller journal) ∷ []
lines_more journal e = numbered_more full_line [] journal e

-- a run along the lists goes on by a step whose command is the next of its caller's list
pub goes_on : {n : Numbers} {lists : List (List Cmd)} {journal : List Entry} {s t : State} {e : Entry}
    {left after : ℕ → List Cmd} → GoesAlong n lists journal s left → Step n s e t
    → left e.caller ≡ e.cmd ∷ after e.caller → ((c : ℕ) → (c ≡ e.caller → ⊥) → left c ≡ after c)
    → GoesAlong n lists (journal ++ e ∷ []) t after
goes_on {lists = lists} {journal = journal} {e = e} {left = left} {after = after} along step next apart
    = record {
      run = push along.run step;
      parts = λ c. along.parts c ∙ ap (λ (l : List Cmd). own journal c ++ l) (rest c)
          ∙ sym (append_assoc (own journal c) (own (e ∷ []) c) (after c))
          ∙ ap (λ (l : List Cmd). l ++ after c) (sym (own-append journal (e ∷ []) c));
    }
  where
    rest : (c : ℕ) → left c ≡ own (e ∷ []) c ++ after c
    rest c = ⊎_elim (λ same. subst (λ k. left k ≡ own (e ∷ []) k ++ after k) (sym same)
        (next ∙ ap (λ (l : List Cmd). l ++ after e.caller) (sym (own_here e [] e.caller refl))))
        (λ other. apart c other ∙ ap (λ (l : List Cmd). l ++ after c) (sym (own_apart e [] c other)))
        (cases_eq c e.caller)

-- what a line is that comes after those of a run along the lists
pub data IsNextLine (n : Numbers) (lists : List (List Cmd)) (journal : List Entry) (s : State)
    (line : List ℕ) : Type 0 where
  of_entry : {e : Entry} {t : State} (rest : List Cmd) → Step n s e t
      → list_of lists e.caller ≡ commands_of (part_of journal e.caller) ++ e.cmd ∷ rest
      → line ≡ full_line e (next_number e.caller journal) → IsNextLine n lists journal s line
  of_end : IsWhole n lists journal s → line ≡ end_of journal s → IsNextLine n lists journal s line

-- a chain that ends with a step
record EndsWith (n : Numbers) (s : State) (es : List Entry) (e : Entry) (u : State) : Type 0 where
  before : State
  chain : Chain (Step n) s es before
  step : Step n before e u

chain_end : (n : Numbers) {s u : State} (es : List Entry) (e : Entry) → Chain (Step n) s (es ++ e ∷ []) u
    → EndsWith n s es e u
chain_end n [] e (link step stay) = record { before = _; chain = stay; step = step }
chain_end n (x ∷ es) e (link step rest) =
    let end = chain_end n es e rest in
    record { before = end.before; chain = link step end.chain; step = end.step }

-- a list is empty, or ends with an element
data Ending {A : Type 0} : List A → Type 0 where
  nothing : Ending []
  one_last : (xs : List A) (x : A) → Ending (xs ++ x ∷ [])

one_first : {A : Type 0} (x : A) (ys : List A) → Ending ys → Ending (x ∷ ys)
one_first x _ nothing = one_last [] x
one_first x _ (one_last ys y) = one_last (x ∷ ys) y

ending : {A : Type 0} (xs : List A) → Ending xs
ending [] = nothing
ending (x ∷ xs) = one_first x xs (ending xs)

module _ {n : Numbers} {lists : List (List Cmd)} {journal : List Entry} {s : State} {left : ℕ → List Cmd}
    (line : List ℕ) (callers : n.callers < 2 ^ 64) (blocks : n.blocks < 2 ^ 32)
    (along : GoesAlong n lists journal s left) where
  by_entry : {t : State} {other : ℕ → List Cmd} (es : List Entry) (e : Entry)
      → GoesAlong n lists (es ++ e ∷ []) t other → full_lines (es ++ e ∷ []) ≡ full_lines journal ++ line ∷ []
      → IsNextLine n lists journal s line
  by_entry {t = t} {other = other} es e longer lines =
      of_entry (other e.caller) (subst (λ x. Step n x e t) same.1 end.step) next
      (sym parts.1 ∙ ap (λ (b : List Entry). full_line e (next_number e.caller b)) same.0)
    where
      parts : (full_lines es ≡ full_lines journal) × (full_line e (next_number e.caller es) ≡ line)
      parts = same_from_push (full_lines es) (full_lines journal) (full_line e (next_number e.caller es)) line
          (sym (lines_more es e) ∙ lines)

      end : EndsWith n (start_of n) es e t
      end = chain_end n es e longer.run

      shorter : GoesAlong n lists es end.before (λ c. own (e ∷ []) c ++ other c)
      shorter = record {
        run = end.chain;
        parts = λ c. longer.parts c ∙ ap (λ (l : List Cmd). l ++ other c) (own-append es (e ∷ []) c)
            ∙ append_assoc (own es c) (own (e ∷ []) c) (other c);
      }

      same : (es ≡ journal) × (end.before ≡ s)
      same = one_run callers blocks shorter along parts.0

      next : list_of lists e.caller ≡ own journal e.caller ++ e.cmd ∷ other e.caller
      next = shorter.parts e.caller
          ∙ ap (λ (b : List Entry). own b e.caller ++ (own (e ∷ []) e.caller ++ other e.caller)) same.0
          ∙ ap (λ (l : List Cmd). own journal e.caller ++ (l ++ other e.caller)) (own_here e [] e.caller refl)

  by_lines : (lines : List (List ℕ)) → AreRight n lists lines → lines ≡ full_lines journal ++ line ∷ []
      → IsNextLine n lists journal s line
  by_lines _ (so_far {journal = j} {s = t} {left = other} longer) lines = by j (ending j) longer lines
    where
      by : (k : List Entry) → Ending k → GoesAlong n lists k t other
          → full_lines k ≡ full_lines journal ++ line ∷ [] → IsNextLine n lists journal s line
      by [] nothing whole none =
          absurd (omega (
            arith,
            ap (λ (l : List (List ℕ)). length l) none,
            length-append (full_lines journal) (line ∷ []),
          ))
      by _ (one_last es e) whole more = by_entry es e whole more
  by_lines _ (at_the_end {journal = j} {s = t} whole) lines =
      let parts = same_from_push (full_lines j) (full_lines journal) (end_of j t) line lines in
      let same = one_run callers blocks whole along parts.0 in
      of_end (subst (IsWhole n lists journal) same.1 (subst (λ k. IsWhole n lists k t) same.0 whole))
      (sym parts.1 ∙ (λ i. end_of (same.0 i) (same.1 i)))

-- with such a line the lines are right only where it is that of a next entry, or the end line of a whole run
pub next_line : {n : Numbers} {lists : List (List Cmd)} {journal : List Entry} {s : State}
    {left : ℕ → List Cmd} (line : List ℕ) → n.callers < 2 ^ 64 → n.blocks < 2 ^ 32
    → GoesAlong n lists journal s left → AreRight n lists (full_lines journal ++ line ∷ [])
    → IsNextLine n lists journal s line
next_line line callers blocks along right = by_lines line callers blocks along _ right refl
