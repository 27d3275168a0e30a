use Rattle.hd_ages.proofs.Basics.{DueRows, IfSome, List, Some, ap, arith, get, handles_of, length, subst, sym, ℕ, ◌+◌, ◌∙◌, ◌≡◌}
use Rattle.hd_ages.proofs.WalkSteps.{gives, same_clumps}
use Rattle.hd_ages.proofs.due_rows.DueRows.next.Goals as goal

pub returns-clause-on : goal.returns-clause-on
returns-clause-on g c =
    let on = c.loop-self.invariant.on in
    record {
      first = omega (arith, on.first, ap (λ (w : DueRows). w.first) c.take_row.ensures.after);
      next = subst (λ (w : DueRows). IfSome w.next (λ b. get c.args.seg.now.uses b ≡ Some (handles_of w.kind)))
          (sym c.take_row.ensures.after) on.next;
      few = on.few;
    }

pub returns-clause-row : goal.returns-clause-row
returns-clause-row g c = record {
  slots = sym c.loop-self.invariant.slots
      ∙ gives c.args.seg.now c.args.ages.now c.loop-self.self c.take_row.new.self c.take_row.result
      c.take_row.ensures.after c.take_row.ensures.rows;
}

pub returns-clause-steps : goal.returns-clause-steps
returns-clause-steps g c =
    let clumps = same_clumps c.args.seg.now c.args.ages.now c.loop-self.self c.take_row.new.self
    c.take_row.ensures.after in
    ap (λ (xs : List ℕ). c.loop-self.steps + length xs) clumps ∙ c.loop-self.invariant.steps
