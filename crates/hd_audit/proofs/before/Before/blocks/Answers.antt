use Rattle.std.proofs.Common.{IsSome, ap, arith, subst, sym}
use Rattle.hd_model.specs.State.{use_of}
use Rattle.hd_audit.specs.declared.before.Before.TheInside.{Inside}
use Rattle.hd_audit.specs.Known.{Known}
use Rattle.hd_audit.proofs.JudgedLines.{well_formed}
use Rattle.hd_audit.proofs.before.Before.blocks.Goals as goal

pub returns-clause-used : goal.returns-clause-used
returns-clause-used c = λ block some.
    let used = (well_formed c.self.invariant.1).handles.blocks block
    (subst (λ (k : Known). IsSome (use_of k.state block)) (sym c.self.view_is) some) in
    omega (
      arith,
      used.1,
      c.blocks-2.ensures.value,
      ap (λ (b : Inside). b.judged.machine.numbers.blocks) c.self-inside.view_is,
    )
