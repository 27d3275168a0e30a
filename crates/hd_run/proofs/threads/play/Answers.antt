use Rattle.hd_run.proofs.Basics.{Some, ap, arith, get_or, get_or_from_slice_get, length, list_of, refl, slice_get, subst, sym, ℕ, ◌<◌, ◌≡◌}
use Rattle.hd_run.proofs.PlaySteps.{goes_on, sees, stops}
use Rattle.hd_run.proofs.threads.play.Given.{Over}
use Rattle.hd_run.proofs.threads.play.Goals.{After-call}
use Rattle.hd_run.proofs.threads.play.Goals as goal

-- the command is the one at its position in the caller's list
within : (g : Over) (c : After-call g) → c.commands.i < length
    (list_of c.args.scripts.now c.args.caller.now.number)
within g c =
    let known = ap (λ (k : ℕ). length (list_of c.args.scripts.now k)) c.number-number.ensures in
    omega (arith, c.commands-test.true, c.len-i-end.ensures.value, known)

here : (g : Over) (c : After-call g)
    → get_or (list_of c.args.scripts.now c.args.caller.now.number) c.commands.i c.cmd.result ≡ c.cmd.result
here g c = subst (λ (k : ℕ). get_or (list_of c.args.scripts.now k) c.commands.i c.cmd.result ≡ c.cmd.result)
    c.number-number.ensures
    (get_or_from_slice_get (list_of c.args.scripts.now c.number-number.result) c.commands.i c.cmd.result
    c.cmd.result
    (subst (λ n. slice_get (list_of c.args.scripts.now c.number-number.result) n ≡ Some c.cmd.result)
    (omega arith) c.cmd.ensures.value))

pub returns-in-Err : goal.returns-in-Err
returns-in-Err g c =
    let w = (goal.at.returns-in-Err g c).After-call in
    let list = list_of c.args.scripts.now c.args.caller.now.number in
    sees list c.args.caller.now c.commands.caller c.call.new.caller c.call.new.caller.seen
    c.in-Err.ensures.unchanged
    (stops list c.args.caller.now c.commands.caller c.commands.i c.cmd.result (within g w) (here g w)
    c.commands.invariant.at c.in-Err.ensures.memory)

pub commands-preserved : goal.commands-preserved
commands-preserved g c =
    let w = (goal.at.commands-preserved g c).After-call in
    record {
      at = goes_on (list_of c.args.scripts.now c.args.caller.now.number) c.args.caller.now c.commands.caller
          c.call.new.caller c.commands.i c.cmd.result (within g w) (here g w) c.commands.invariant.at
          c.call.ensures.same c.in-Ok.ensures.done;
      shared = refl;
    }
