use Rattle.hd_ages.proofs.Basics.{All, ap, arith, length, subst, ◌≤◌}
use Rattle.hd_ages.proofs.BlockAges.{length-ages_of, ages_small}
use Rattle.hd_ages.proofs.age_map.AgeMap.blocks.Goals as goal

pub returns-clause-value : goal.returns-clause-value
returns-clause-value c =
    let known = length-ages_of c.self.inside.words.items in
    omega (arith, c.len.ensures, c.self.inside.words.ok.0, ap length c.self.view_is, known)

pub returns-clause-ages : goal.returns-clause-ages
returns-clause-ages c = subst (λ xs. All (λ a. a ≤ 2) xs) c.self.view_is
    (ages_small c.self.inside.words.items)
