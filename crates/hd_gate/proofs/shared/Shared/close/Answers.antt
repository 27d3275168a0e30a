use Rattle.hd_gate.proofs.Basics.{CallerView, HasParts, List, Named, WorldView, ap, arith, subst, sym, ◌∙◌, ◌≡◌}
use Rattle.hd_gate.proofs.CallerClose.{has_parts}
use Rattle.hd_gate.proofs.shared.Shared.close.Goals as goal

pub returns-clause-parts : goal.returns-clause-parts
returns-clause-parts c =
    let ensured = c.join_all-first.ensures in
    let callers = ap (λ (n : Named). n.numbers.callers) c.self.view_is in
    let closed = c.close.result in
    subst (λ (w : WorldView). HasParts c.args.callers w.journal) (sym c.into_inner-world.ensures)
    (subst (λ (l : List CallerView). HasParts l closed.journal) c.callers.view_is
    (has_parts c.callers.inside.list.items c.join_all-first.result.view closed c.close.ensures.world
    (ensured.all.0 ∙ callers ∙ sym c.requires.count
    ∙ ap (λ (l : List CallerView). Rattle.std.proofs.Common.length l)
    (sym c.callers.view_is)) ensured.part ensured.seen ensured.ended))
