use Rattle.std.proofs.Common.{subst, sym}
use Rattle.hd_plain.specs.Inside.{Awaits, Gains, IsYoungRoot, YoungEdge}
use Rattle.hd_plain.specs.Marked.{Marked}
use Rattle.hd_plain.proofs.MarkedSets.{awaits_closed, awaits_gains, awaits_open}
use Rattle.hd_plain.proofs.RootMarks.{reach_decided}
use Rattle.hd_plain.proofs.machine.Machine.mark_reached.Goals as goal

pub close-requires-clause-generations : goal.close-requires-clause-generations
close-requires-clause-generations c = c.requires.formed.objects.generations

pub close-requires-clause-awaits : goal.close-requires-clause-awaits
close-requires-clause-awaits c =
    let edge = YoungEdge c.args.n c.args.self.now.state in
    awaits_gains edge _ _ _ c.in_ok-attached.ensures.gains
    (subst (Awaits edge) (sym c.requires.none) (awaits_open edge))

pub returns-clause-reached : goal.returns-clause-reached
returns-clause-reached c =
    let s = c.args.self.now.state in
    record {
      reached = reach_decided c.args.n s c.in_ok-close.ensures
          (subst (λ (m : Marked). Gains (IsYoungRoot c.args.n s) m c.mark_roots.new.marks) c.requires.none
          c.in_ok-attached.ensures.gains);
      awaits = awaits_closed (YoungEdge c.args.n s) _ _ c.in_ok-close.ensures;
      none_left = c.in_ok-close.ensures.none_left;
    }
