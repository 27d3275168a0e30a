use Rattle.std.proofs.Common.{arith, subst, ◌%◌, ◌*◌, ◌+◌, ◌/◌, ◌≡◌}
use Rattle.std.specs.Prelude.{MatchOption}
use Rattle.hd_model.specs.declared.limits.TheConstants.{ROWS}
use Rattle.hd_host.specs.Kinds.{HasNoneBefore, IsNextOf}
use Rattle.hd_host.proofs.HandleKinds.{none-outside}
use Rattle.hd_host.proofs.kinds.first_beside.Goals as goal

pub returns-then-block-eq0 : goal.returns-then-block-eq0
returns-then-block-eq0 c =
    subst (λ from. HasNoneBefore c.args.store.now.state c.args.kinds c.args.cleared from
    (ROWS * (c.args.from / ROWS + 1))) (let at : ROWS * (c.args.from / ROWS) + c.args.from % ROWS ≡ c.args.from =
    omega arith in at)
    (none-outside c.requires.sound c.args.kinds c.args.cleared (c.args.from / ROWS) (c.args.from % ROWS) (omega arith)
    (λ within. let low = within.0 in let none = c.if-block-eq0.true in omega (arith, low, none)))

pub returns-then-block-blocks : goal.returns-then-block-blocks
returns-then-block-blocks c =
    subst (λ from. HasNoneBefore c.args.store.now.state c.args.kinds c.args.cleared from
    (ROWS * (c.args.from / ROWS + 1))) (let at : ROWS * (c.args.from / ROWS) + c.args.from % ROWS ≡ c.args.from =
    omega arith in at)
    (none-outside c.requires.sound c.args.kinds c.args.cleared (c.args.from / ROWS) (c.args.from % ROWS) (omega arith)
    (λ within. let high = within.1 in let above = c.if-block-blocks.true in
    omega (arith, high, above, c.blocks-2.ensures.value)))

pub first_in-requires-clause-low : goal.first_in-requires-clause-low
first_in-requires-clause-low c = omega (arith, c.if-block-eq0.false)

pub first_in-requires-clause-high : goal.first_in-requires-clause-high
first_in-requires-clause-high c = omega (arith, c.if-block-blocks.false, c.blocks-2.ensures.table)

pub returns : goal.returns
returns c =
    subst (λ from. MatchOption c.first_in.result (HasNoneBefore c.args.store.now.state c.args.kinds c.args.cleared from
    (ROWS * (c.args.from / ROWS + 1))) (IsNextOf c.args.store.now.state c.args.kinds c.args.cleared from))
    (let at : ROWS * (c.args.from / ROWS) + c.args.from % ROWS ≡ c.args.from = omega arith in at) c.first_in.ensures
