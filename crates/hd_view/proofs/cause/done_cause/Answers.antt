use Rattle.std.proofs.Common.{refl, subst}
use Rattle.hd_model.specs.Step.{MayGive}
use Rattle.hd_view.specs.Inside.{parts_in}
use Rattle.hd_view.proofs.RowCauses.{other_blocks}
use Rattle.hd_view.proofs.cause.done_cause.Goals as goal

pub returns-in-Zero : goal.returns-in-Zero
returns-in-Zero c = λ d. c.free_cause.ensures (parts_in c.args.stated) d refl c.in-Zero.is

pub returns-in-Back : goal.returns-in-Back
returns-in-Back c = λ d.
    other_blocks c.args.before.now (parts_in c.args.stated) c.args.kind d
    (λ slot may. subst (λ g. MayGive c.args.before.now.numbers c.args.before.now.state c.args.kind g slot)
    c.in-Back.is may)

pub returns-in-One : goal.returns-in-One
returns-in-One c = λ d. c.one_cause.ensures (parts_in c.args.stated) d refl c.in-One.is

pub returns-in-Two : goal.returns-in-Two
returns-in-Two c = λ d. c.two_cause.ensures (parts_in c.args.stated) d refl c.in-Two.is
