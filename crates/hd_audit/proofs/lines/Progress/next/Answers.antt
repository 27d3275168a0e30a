use Rattle.std.proofs.Common.{[], ap, arith, get_or, length, slice_get, sym, ◌<◌, ◌≡◌}
use Rattle.std.proofs.lemmas.List.{get_or_past, get_or_read}
use Rattle.std.proofs.lemmas.Option.{slice_get_past}
use Rattle.hd_audit.proofs.lines.Progress.next.Goals as goal
use Rattle.hd_audit.proofs.lines.Progress.next.Goals.{else-caller-callers-via-then-caller-callers+else-index-len, else-caller-callers-via-else-caller-callers}

pub returns-else-caller-callers-clause-command : goal.returns-else-caller-callers-clause-command
returns-else-caller-callers-clause-command c =
    let list = get_or c.args.scripts.now c.args.caller [] in
    elim c.else-caller-callers.branch [
      | else-caller-callers-via-then-caller-callers+else-index-len w ↦
          let within : c.args.caller < length c.args.self.now.done.items =
          omega (arith, c.requires, w.if-caller-callers.true, c.callers.ensures.value) in
          let count : w.index.result.now ≡ get_or c.args.self.now.done.items c.args.caller 0 =
          get_or_read c.args.self.now.done.items c.args.caller w.index.result.now within w.index.ensures 0 in
          sym (slice_get_past list (get_or c.args.self.now.done.items c.args.caller 0)
          (omega (arith, count, w.len.ensures.value, w.if-index-len.false)))
      | else-caller-callers-via-else-caller-callers w ↦
          sym (ap (λ l. slice_get l (get_or c.args.self.now.done.items c.args.caller 0))
          (get_or_past c.args.scripts.now c.args.caller []
          (omega (arith, w.if-caller-callers.false, c.callers.ensures.value))))
    ]
