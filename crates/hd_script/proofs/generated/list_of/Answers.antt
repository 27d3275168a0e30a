use Rattle.hd_script.proofs.Basics.{Cmd, List, ap, arith, round_of, sym, ◌++◌, ◌+◌, ◌∙◌, ◌≡◌}
use Rattle.hd_script.proofs.LoadRounds.{rounds_of, round_more, all_rounds}
use Rattle.hd_script.proofs.generated.list_of.Goals as goal

pub loop-done-preserved : goal.loop-done-preserved
loop-done-preserved c =
    let caller = c.args.caller in
    let done = c.loop-done.done in
    c.in_ok-push_round.ensures ∙ ap (λ (list : List Cmd). list ++ round_of caller (done + 1))
    c.loop-done.invariant ∙ sym (round_more caller done)

pub returns : goal.returns
returns c =
    let whole : c.loop-done.done ≡ c.args.rounds = omega arith in
    all_rounds c.args.caller c.args.rounds c.loop-done.list.items
    (c.loop-done.invariant ∙ ap (rounds_of c.args.caller) whole)
