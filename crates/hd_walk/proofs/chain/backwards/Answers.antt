use Rattle.std.proofs.Common.{◌≡◌, ◌+◌, ◌≤◌, ◌<◌, ◌++◌, ◌∷◌, [], ℕ, List, Option, Some, None, length, sym, ap, ◌∙◌, subst, arith, rules}
use Rattle.std.specs.Option.{option_map_or}
use Rattle.std.proofs.lemmas.List.{append-nil, append_assoc, length_push}
use Rattle.hd_walk.specs.Trail.{IsReadBack}
use Rattle.hd_walk.proofs.chain.backwards.Goals as goal

-- the one before index i is earlier
falls : (i : ℕ) (o : Option ℕ) → ((j : ℕ) → o ≡ Some j → j < i) → option_map_or (λ (k : ℕ). k + 1) o 0 ≤ i
falls i None low = omega arith
falls i (Some j) low = let l = low j (λ k. Some j) in omega arith

pub loop-next-preserved : goal.loop-next-preserved
loop-next-preserved c =
    let path : List ℕ = c.loop-next.chain.items in
    let at : ℕ = c.get-found.result.at in
    let items : c.push.new.self.items ≡ path ++ at ∷ [] = search rules in
    let size = ap length items ∙ length_push path at in
    let here = ap (λ o. option_map_or (λ (k : ℕ). k + 1) o 0) c.in-Some.is in
    let low =
    falls c.in-Some.i c.get-found.result.before
    (λ j e. c.requires.falling c.in-Some.i j c.get-found.result c.get-found.ensures e) in
    record {
      reads = λ rest r.
          subst (λ xs. IsReadBack c.args.trail.now (Some c.args.last) xs)
          (sym (ap (λ xs. xs ++ rest) items ∙ append_assoc path (at ∷ []) rest))
          (c.loop-next.invariant.reads (at ∷ rest)
          (subst (λ o. IsReadBack c.args.trail.now o (at ∷ rest)) (sym c.in-Some.is)
          (IsReadBack.step c.get-found.result c.get-found.ensures r)));
      few = let f = c.loop-next.invariant.few in omega arith;
      inside = let f = c.loop-next.invariant.inside in omega arith;
    }

pub returns-clause-chain : goal.returns-clause-chain
returns-clause-chain c =
    subst (λ xs. IsReadBack c.args.trail.now (Some c.args.last) xs) (append-nil c.loop-next.chain.items)
    (c.loop-next.invariant.reads []
    (subst (λ o. IsReadBack c.args.trail.now o []) (sym c.in_default.is) IsReadBack.start))
