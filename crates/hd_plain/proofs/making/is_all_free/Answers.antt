use Rattle.std.proofs.Common.{ap, arith, sym, ◌*◌, ◌+◌, ◌∙◌}
use Rattle.std.proofs.lemmas.Bool.{false≢true}
use Rattle.std.specs.FinMap.{get}
use Rattle.hd_plain.specs.MachineViews.{MachineView}
use Rattle.hd_plain.proofs.FreeSlots.{all_free_low, all_free_of}
use Rattle.hd_plain.proofs.making.is_all_free.Goals as goal
use Rattle.hd_model.specs.declared.limits.TheConstants.{ROWS}

pub returns-then-block-limit : goal.returns-then-block-limit
returns-then-block-limit c = (
  λ t. absurd (false≢true t),
  λ free. absurd
      (omega (
        arith,
        all_free_low c.args.machine.now.numbers c.args.machine.now.state c.requires c.args.kind
            c.args.block free,
        c.if-block-limit.true,
        c.blocks-limit.ensures.value,
        ap (λ (j : MachineView). j.numbers.blocks) c.machine.view_is,
      )),
)

pub returns-then-not-is_of : goal.returns-then-not-is_of
returns-then-not-is_of c = (
  λ t. absurd (false≢true t),
  λ free. absurd (false≢true (sym c.if-not-is_of.true ∙ c.is_of.ensures.1
      (ap (λ (j : MachineView). get j.state.blocks c.args.block) c.machine.view_is
      ∙ all_free_of c.args.machine.now.numbers c.args.machine.now.state c.requires c.args.kind c.args.block
      free))),
)

pub returns-then-not-is_free : goal.returns-then-not-is_free
returns-then-not-is_free c = (
  λ t. absurd (false≢true t),
  λ free. absurd (false≢true (sym c.if-not-is_free.true ∙ c.is_free.ensures.1
      (free (record { 0 = c.args.block * ROWS + c.loop-row.row }) (omega arith)))),
)
