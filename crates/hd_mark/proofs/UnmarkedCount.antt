-- How many addresses are left that are not in a set, as it grows.
use Rattle.hd_mark.proofs.Basics.{Addr, AllPairs, Bool, Contains, FinSet, List, arith, both_ways, cases_Bool, contains, false, filter, insert, left, member_cases, nat_cmp, not, not-true, not_from_false, pairs_cons, pairs_passing, passing_from, passing_in, subst, true, ⊎_elim, ◌+◌, ◌∷◌, ◌≡◌, ◌≢◌, ◌≤◌}
use Rattle.hd_model.proofs.PropertyCounts.{fewer}
use Rattle.hd_mark.proofs.MarkBits.{insert_gains}

-- an address joins that was left
pub left_falls : (s : FinSet nat_cmp) (a : Addr) (ms : List Addr) → AllPairs (λ x y. x ≢ y) ms
    → contains s a.0 ≡ false → Contains ms a → left (insert s a.0) ms + 1 ≤ left s ms
left_falls s a ms apart out member =
    let was : Addr → Bool = λ x. not (contains s x.0) in
    let is : Addr → Bool = λ x. not (contains (insert s a.0) x.0) in
    let gains = insert_gains (λ x. false) s a in
    let few = fewer (a ∷ filter is ms) (filter was ms)
    (pairs_cons (λ x y. x ≢ y) a (filter is ms)
    (λ y inside same. both_ways _ (not-true _ (passing_from is ms y inside).1)
    (subst (λ (x : Addr). contains (insert s a.0) x.0 ≡ true) same gains.joins))
    (pairs_passing is (λ x y. x ≢ y) ms apart))
    (λ x inside. ⊎_elim
    (λ e. subst (Contains (filter was ms)) e (passing_in was ms a member (not_from_false _ out)))
    (λ later. let (there, passes) = passing_from is ms x later in
    passing_in was ms x there (not_from_false (contains s x.0)
    (⊎_elim (λ before. absurd (both_ways _ (not-true _ passes) (gains.keeps x before))) (λ no. no)
    (cases_Bool (contains s x.0)))))
    (member_cases a (filter is ms) x inside)) in
    omega (arith, few)
