-- Histories, and what an end has seen of one.
use Rattle.std.proofs.Common.{◌≡◌, ◌≢◌, ℕ, ◌+◌, List, [], ◌∷◌, ◌++◌, length, sym, ap, subst, arith}
use Rattle.hd_turns.specs.Views.{AreOthers, AreTurns, GoesOn}
use Rattle.hd_turns.specs.Rule.{AreBelow}

module _ {W : Type 0} where
  -- one end more
  pub below_more : (ends : ℕ) (log : List (ℕ × W)) → AreBelow ends log → AreBelow (ends + 1) log
  below_more ends [] b = tt
  below_more ends (entry ∷ past) b = ((let low = b.0 in omega arith), below_more ends past b.1)

  -- turns of ends below a number are none of that one
  pub below_others : (ends : ℕ) (newer seen : List (ℕ × W)) → AreBelow ends (newer ++ seen) → AreOthers ends newer
  below_others ends [] seen b = tt
  below_others ends (entry ∷ newer) seen b = ((λ e. let low = b.0 in let is = e in omega arith), below_others ends newer seen b.1)

  -- an end sees all
  pub sees_all : {number : ℕ} {log seen : List (ℕ × W)} → log ≡ seen → GoesOn number log seen
  sees_all e = record { newer = []; goes_on = e; others = tt }

  -- a new end, whose number is above all others, sees what another saw
  pub sees_as : {number ends : ℕ} {log seen : List (ℕ × W)} → AreBelow ends log → GoesOn number log seen
      → GoesOn ends log seen
  sees_as {number} {ends} {log} {seen} b g = record {
    newer = g.newer;
    goes_on = g.goes_on;
    others = below_others ends g.newer seen (subst (AreBelow ends) g.goes_on b);
  }

  -- one turn more, of another end
  pub sees_less : {number by : ℕ} {value : W} {log seen : List (ℕ × W)} → by ≢ number → GoesOn number log seen
      → GoesOn number ((by, value) ∷ log) seen
  sees_less {number} {by} {value} other g = record {
    newer = (by, value) ∷ g.newer;
    goes_on = ap (λ l. (by, value) ∷ l) g.goes_on;
    others = (other, g.others);
  }

nonempty : {A : Type 0} (l : List A) (x : A) (r : List A) → [] ≡ l ++ x ∷ r → ⊥
nonempty [] x r e = let long = ap length e in omega arith
nonempty (y ∷ l) x r e = let long = ap length e in omega arith

abbrev tail_of : {A : Type 0} → List A → List A
tail_of [] = []
tail_of (x ∷ l) = l

module _ {W : Type 0} where
  abbrev name_of : ℕ → List (ℕ × W) → ℕ
  name_of d [] = d
  name_of d (entry ∷ past) = entry.0

  abbrev value_of : W → List (ℕ × W) → W
  value_of d [] = d
  value_of d (entry ∷ past) = entry.1

module _ {W : Type 0} (turn : ℕ → W → W → Type 0) (P : W → Type 0) (number own : ℕ) (left : W) (rest : List (ℕ × W))
    (keep : (by : ℕ) (was now : W) → by ≢ number → turn by was now → P was → P now) where
  kept : (newer : List (ℕ × W)) (by : ℕ) (value : W) (past : List (ℕ × W))
      → (by, value) ∷ past ≡ newer ++ (own, left) ∷ rest → AreOthers number newer → AreTurns turn by value past
      → P left → P value
  kept [] by value past e others turns p = subst P (sym (ap (value_of left) e)) p
  kept (entry ∷ newer) by value [] e others turns p = absurd (nonempty newer (own, left) rest (ap tail_of e))
  kept (entry ∷ newer) by value ((before, was) ∷ past) e others turns p =
      keep by was value (subst (λ n. n ≢ number) (sym (ap (name_of by) e)) others.0) turns.0
      (kept newer before was past (ap tail_of e) others.1 turns.1 p)

  -- what each turn of another end keeps is so of the value that an end finds, if it was so of what it left
  pub kept_by_others : (by : ℕ) (value : W) (past : List (ℕ × W))
      → GoesOn number ((by, value) ∷ past) ((own, left) ∷ rest) → AreTurns turn by value past → P left → P value
  kept_by_others by value past g = kept g.newer by value past g.goes_on g.others
