-- What each caller's part of a journal has, by the turns of the journal.
use Rattle.hd_run.proofs.Basics.{Bool, Cmd, Entry, List, [], ap, append-nil, arith, commands_of, cond, eq-eqb, false, filter, filter-append, inl, inr, list_of, map, map-append, part_of, refl, suc, sym, taken_by, true, turn_of, turns_from, turns_of, zero, ℕ, ◌++◌, ◌+◌, ◌<◌, ◌==◌, ◌∙◌, ◌∷◌, ◌≡◌, ◌≢◌}
use Rattle.std.proofs.lemmas.Bool.Decides.{eqb_tells}
use Rattle.hd_run.specs.Laws.{PartsFollowTheTurns}

taken_by-append : (caller : ℕ) (p q : List (ℕ × Cmd)) →
    taken_by caller (p ++ q) ≡ taken_by caller p ++ taken_by caller q
taken_by-append caller p q =
    ap (map (λ (p : ℕ × Cmd). p.1)) (filter-append (λ (p : ℕ × Cmd). p.0 == caller) p q)
    ∙ map-append (λ (p : ℕ × Cmd). p.1) (filter (λ (p : ℕ × Cmd). p.0 == caller) p)
    (filter (λ (p : ℕ × Cmd). p.0 == caller) q)

-- a part has the commands of its caller's turns
part_taken : (es : List Entry) (caller : ℕ) →
    commands_of (part_of es caller) ≡ taken_by caller (map turn_of es)
part_taken [] caller = refl
part_taken (e ∷ es) caller = by (e.caller == caller) (part_taken es caller)
  where
    by : (t : Bool) → commands_of (part_of es caller) ≡ taken_by caller (map turn_of es) →
        commands_of (cond t (e ∷ part_of es caller) (part_of es caller))
        ≡ map (λ (p : ℕ × Cmd). p.1) (cond t (turn_of e ∷ filter (λ (p : ℕ × Cmd). p.0 == caller)
        (map turn_of es)) (filter (λ (p : ℕ × Cmd). p.0 == caller) (map turn_of es)))
    by true same = ap (λ v. e.cmd ∷ v) same
    by false same = same

-- a caller takes all of its own turns, and none of another's
taken_own : (caller : ℕ) (commands : List Cmd) → taken_by caller (turns_of caller commands) ≡ commands
taken_own caller [] = refl
taken_own caller (c ∷ cs) = by (caller == caller) (eq-eqb caller caller refl) (taken_own caller cs)
  where
    by : (t : Bool) → t ≡ true → taken_by caller (turns_of caller cs) ≡ cs →
        map (λ (p : ℕ × Cmd). p.1) (cond t ((caller, c) ∷ filter (λ (p : ℕ × Cmd). p.0 == caller)
        (turns_of caller cs)) (filter (λ (p : ℕ × Cmd). p.0 == caller)
        (turns_of caller cs))) ≡ c ∷ cs
    by true is same = ap (λ v. c ∷ v) same
    by false is same = cc

taken_other : (caller other : ℕ) (commands : List Cmd) → other ≢ caller →
    taken_by caller (turns_of other commands) ≡ []
taken_other caller other [] ne = refl
taken_other caller other (c ∷ cs) ne = by (other == caller)
    (elim (eqb_tells other caller) [ inl same ↦ absurd (ne same.1) | inr apart ↦ apart.0 ])
    (taken_other caller other cs ne)
  where
    by : (t : Bool) → t ≡ false → taken_by caller (turns_of other cs) ≡ [] →
        map (λ (p : ℕ × Cmd). p.1) (cond t ((other, c) ∷ filter (λ (p : ℕ × Cmd). p.0 == caller)
        (turns_of other cs)) (filter (λ (p : ℕ × Cmd). p.0 == caller) (turns_of other cs))) ≡ []
    by true is same = cc
    by false is same = same

-- no turn of later callers is one of an earlier
taken_later : (caller k : ℕ) (lists : List (List Cmd)) → caller < k →
    taken_by caller (turns_from k lists) ≡ []
taken_later caller k [] lt = refl
taken_later caller k (x ∷ xs) lt =
    taken_by-append caller (turns_of k x) (turns_from (k + 1) xs)
    ∙ ap (λ v. v ++ taken_by caller (turns_from (k + 1) xs))
    (taken_other caller k x (λ e. absurd (omega (arith, e)))) ∙ taken_later caller (k + 1) xs (omega arith)

-- of all turns a caller takes its list
taken_list : (k caller : ℕ) (lists : List (List Cmd)) →
    taken_by (k + caller) (turns_from k lists) ≡ list_of lists caller
taken_list k caller [] = refl
taken_list k zero (x ∷ xs) =
    taken_by-append (k + zero) (turns_of k x) (turns_from (k + 1) xs)
    ∙ ap (λ v. taken_by v (turns_of k x) ++ taken_by v (turns_from (k + 1) xs))
    (let same : k + zero ≡ k = omega arith in same)
    ∙ ap (λ v. v ++ taken_by k (turns_from (k + 1) xs)) (taken_own k x)
    ∙ ap (λ v. x ++ v) (taken_later k (k + 1) xs (omega arith)) ∙ append-nil x
taken_list k (suc caller) (x ∷ xs) =
    let next : k + suc caller ≡ (k + 1) + caller = omega arith in
    taken_by-append (k + suc caller) (turns_of k x) (turns_from (k + 1) xs)
    ∙ ap (λ v. v ++ taken_by (k + suc caller) (turns_from (k + 1) xs))
    (taken_other (k + suc caller) k x (λ e. absurd (omega (arith, e))))
    ∙ ap (λ v. taken_by v (turns_from (k + 1) xs)) next ∙ taken_list (k + 1) caller xs

pub parts_follow : PartsFollowTheTurns
parts_follow lists journal left turns caller =
    let place : caller ≡ 0 + caller = omega arith in
    sym (ap (λ k. taken_by k (turns_from 0 lists)) place ∙ taken_list 0 caller lists)
    ∙ ap (taken_by caller) turns ∙ taken_by-append caller (map turn_of journal) left
    ∙ ap (λ v. v ++ taken_by caller left) (sym (part_taken journal caller))
