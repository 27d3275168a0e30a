use Rattle.hd_store.proofs.StoreWords.{IsStored, Machine, ap, arith, lowered, machine_of, parts, refl, subst, sym, ◌∙◌, ◌≡◌}
use Rattle.hd_store.proofs.StoreRows.{stored-lowered}
use Rattle.hd_store.proofs.parts.ContentsParts.lower_age.Goals.{After-lower}
use Rattle.hd_store.proofs.parts.ContentsParts.lower_age.Goals as goal

pub lower-requires-clause-low : goal.lower-requires-clause-low
lower-requires-clause-low c = c.requires.low

pub lower-requires-clause-high : goal.lower-requires-clause-high
lower-requires-clause-high c =
    let blocks : c.self.inside.table.blocks ≡ c.args.self.now.numbers.blocks =
    ap (λ (m : Machine). m.numbers.blocks) c.self.view_is in
    omega (arith, blocks, c.self.invariant.clumps, c.requires.high)

after : (c : After-lower) → c.lower.new.self ≡ lowered c.self.inside.ages c.args.slot.0 c.args.g
after c = c.lower.ensures c.args.slot.0 (record { in_block = refl; in_clump = omega arith })

pub invariant_of-self : goal.invariant_of-self
invariant_of-self c =
    subst (λ ages. IsStored (record (parts c.self.inside) { ages = ages })) (sym (after c))
    (stored-lowered (parts c.self.inside) c.args.slot.0 c.args.g c.self.invariant)

pub returns : goal.returns
returns c =
    ap (λ ages. machine_of (record (parts c.self.inside) { ages = ages })) (after c)
    ∙ ap (λ (m : Machine). record m { ages = lowered m.ages c.args.slot.0 c.args.g }) c.self.view_is
