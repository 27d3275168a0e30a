-- Histories of what is behind a gate, as histories of the host.
use Rattle.std.proofs.Common.{◌≡◌, ℕ, List, [], ◌∷◌, ◌++◌, ◌∙◌, ap, length, refl, subst, suc, sym}
use Rattle.hd_turns.specs.Views.{AreOthers, AreTurns, GoesOn}
use Rattle.hd_ends.specs.Ends.{EndTurn}
use Rattle.hd_ends.specs.Views.{SharedTurn, SharedView, hosts_of}

hosts_append : (xs ys : List (ℕ × SharedView)) → hosts_of (xs ++ ys) ≡ hosts_of xs ++ hosts_of ys
hosts_append [] ys = refl
hosts_append (x ∷ xs) ys = ap (λ hosts. (x.0, x.1.host) ∷ hosts) (hosts_append xs ys)

pub length_hosts : (xs : List (ℕ × SharedView)) → length (hosts_of xs) ≡ length xs
length_hosts [] = refl
length_hosts (x ∷ xs) = ap suc (length_hosts xs)

hosts_of_others : (number : ℕ) (newer : List (ℕ × SharedView)) → AreOthers number newer
    → AreOthers number (hosts_of newer)
hosts_of_others number [] others = tt
hosts_of_others number (x ∷ newer) others = (others.0, hosts_of_others number newer others.1)

pub hosts_go_on : {number : ℕ} {log seen : List (ℕ × SharedView)} → GoesOn number log seen
    → GoesOn number (hosts_of log) (hosts_of seen)
hosts_go_on {number} {log} {seen} g = record {
  newer = hosts_of g.newer;
  goes_on = ap hosts_of g.goes_on ∙ hosts_append g.newer seen;
  others = hosts_of_others number g.newer g.others;
}

-- all turns are of ends with one number of contexts, since none changes it
pub turns_of_hosts : (each by : ℕ) (s : SharedView) (past : List (ℕ × SharedView)) → s.each ≡ each
    → AreTurns SharedTurn by s past → AreTurns (EndTurn each) by s.host (hosts_of past)
turns_of_hosts each by s [] is turns = tt
turns_of_hosts each by s ((before, was) ∷ past) is turns =
    let same : was.each ≡ each = sym turns.0.0 ∙ is in (
      subst (λ n. EndTurn n by was.host s.host) same turns.0.1,
      turns_of_hosts each before was past same turns.1,
    )
