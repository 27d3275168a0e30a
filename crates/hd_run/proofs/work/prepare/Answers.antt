use Rattle.hd_run.proofs.Basics.{Traits, ap, refl, sym, ◌∙◌}
use Rattle.hd_run.proofs.WorkCauses.{made_job}
use Rattle.hd_run.proofs.work.prepare.Goals as goal

pub returns-in-Ok-clause-job : goal.returns-in-Ok-clause-job
returns-in-Ok-clause-job g c =
    let seen = g.S.Source.seen c.args.source.now in
    rw c.new.ensures
    (made_job c.args.request seen seen c.in-Ok.scripts
    (sym (ap (λ (t : Traits). t.reads) c.traits.ensures) ∙ c.if-traits.false) refl c.requires c.in-Ok.ensures)
