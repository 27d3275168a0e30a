use Rattle.std.proofs.Common.{Some, arith, refl, subst, sym}
use Rattle.hd_model.specs.declared.data.Entry.{Entry}
use Rattle.hd_model.specs.declared.data.Grown.TheVariants.{One, Two}
use Rattle.hd_view.specs.Inside.{IsGrownOf}
use Rattle.hd_view.proofs.AcceptedSets.{grown_none, grown_some, some_growth}
use Rattle.hd_view.proofs.accepted.growth_entry.Goals as goal

pub grown_entry-requires : goal.grown_entry-requires
grown_entry-requires c =
    let high = c.in-One.ensures.1.high in
    omega (arith, high, c.blocks-blocks.ensures.value, c.blocks-blocks.ensures.limit)

pub returns-in-One : goal.returns-in-One
returns-in-One c =
    let k = c.args.before.now in
    subst (λ (e : Entry). IsGrownOf k c.args.kind c.args.caller c.args.cmd (Some e)) (sym c.grown_entry.ensures)
    (grown_some k c.args.kind c.args.caller c.args.cmd c.in-One.block (One c.in-One.block)
    (c.in-One.ensures.0, c.in-One.ensures.1, refl) (some_growth (One c.in-One.block) refl))

pub grown_entry-requires-in-Two : goal.grown_entry-requires-in-Two
grown_entry-requires-in-Two c =
    let high = c.in-Two.ensures.1.high in
    omega (arith, high, c.blocks-blocks.ensures.value, c.blocks-blocks.ensures.limit)

pub returns-in-Two : goal.returns-in-Two
returns-in-Two c =
    let k = c.args.before.now in
    subst (λ (e : Entry). IsGrownOf k c.args.kind c.args.caller c.args.cmd (Some e))
    (sym c.grown_entry-in-Two.ensures)
    (grown_some k c.args.kind c.args.caller c.args.cmd c.in-Two.block (Two c.in-Two.block c.in-Two.other)
    (c.in-Two.ensures.0, c.in-Two.ensures.1, c.in-Two.ensures.2, refl)
    (some_growth (Two c.in-Two.block c.in-Two.other) refl))

pub returns-in-Zero : goal.returns-in-Zero
returns-in-Zero c = grown_none c.args.before.now c.args.kind c.args.caller c.args.cmd c.in-Zero.ensures
