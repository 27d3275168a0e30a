use Rattle.hd_run.proofs.Basics.{Cmd, IsReadyFor, List, MatchResult-from_err, StoppedAt, arith, drop, get_or_from_slice_get, list_of, subst, sym, turns_from, turns_of, ℕ, ⊤, ◌++◌, ◌+◌, ◌∙◌, ◌∷◌}
use Rattle.hd_run.proofs.TurnSteps.{ready_at, takes_turn, stops_at}
use Rattle.hd_run.proofs.turns.take_turns_of.Goals.{After-call}
use Rattle.hd_run.proofs.turns.take_turns_of.Goals as goal

-- the turns that are left after the one with the command
abbrev left : After-call → List (ℕ × Cmd)
left c = turns_of c.args.caller (drop (c.commands.i + 1) (list_of c.args.scripts.now c.args.caller))
    ++ turns_from (c.args.caller + 1) (drop (c.args.caller + 1) c.args.scripts.now)

ready : (c : After-call) → IsReadyFor c.args.alone.now.numbers c.args.scripts.now
    ((c.args.caller, c.cmd.result) ∷ left c) c.commands.alone
ready c =
    let list = list_of c.args.scripts.now c.args.caller in
    ready_at c.args.alone.now.numbers c.args.scripts.now c.args.caller c.commands.i c.cmd.result
    (turns_from (c.args.caller + 1) (drop (c.args.caller + 1) c.args.scripts.now)) c.commands.alone
    (omega (arith, c.commands-test.true, c.len-i-end.ensures.value))
    (get_or_from_slice_get list c.commands.i c.cmd.result c.cmd.result c.cmd.ensures.value)
    c.commands.invariant.ready

pub returns-in_err-call-clause-stopped : goal.returns-in_err-call-clause-stopped
returns-in_err-call-clause-stopped c =
    let at = (goal.at.returns-in_err-call-clause-stopped c).After-call in
    let n = c.args.alone.now.numbers in
    let lists = c.args.scripts.now in
    let stops : StoppedAt n lists c.call.new.self = subst (StoppedAt n lists)
    (sym c.in_err-call.ensures.unchanged) (stops_at n lists (c.args.caller, c.cmd.result) (left at)
    c.commands.alone (ready at) c.in_err-call.ensures.memory c.in_err-call.ensures.fits) in
    MatchResult-from_err c.from_residual.result (λ _. ⊤) (λ _. StoppedAt n lists c.call.new.self)
    c.from_residual.ensures.0 (λ _. stops)

pub commands-preserved : goal.commands-preserved
commands-preserved c =
    let at = (goal.at.commands-preserved c).After-call in
    let did = c.in_ok-call.ensures.done in
    record {
      ready = takes_turn c.args.alone.now.numbers c.args.scripts.now (c.args.caller, c.cmd.result) (left at)
          c.commands.alone c.call.new.self (ready at) did;
      numbers = did.numbers ∙ c.commands.invariant.numbers;
    }
