use Rattle.hd_cwt.proofs.Basics.{arith, refl}
use Rattle.hd_cwt.proofs.KeyChanges.{none_listed, relisted}
use Rattle.hd_cwt.proofs.cwt.Cwt.open_with.Goals as goal

pub invariant_of-result : goal.invariant_of-result
invariant_of-result c =
    relisted (none_listed c.args.blocks c.args.buckets _ c.in_ok-keyed.keyed.indexes.items c.requires.blocks
    (omega (arith, c.in_ok-keyed.ensures.room)) c.in_ok-keyed.ensures.indexes) c.in_ok-entries.ensures
    c.in_ok-keyed.ensures.slots refl refl
