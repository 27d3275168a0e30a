use Rattle.std.proofs.Common.{[], refl, sym, ◌++◌, ◌+◌, ◌∷◌, ◌≡◌}
use Rattle.std.proofs.lemmas.Result.{IfOk-weaker}
use Rattle.hd_view.specs.Inside.{AreDueTo}
use Rattle.hd_view.specs.declared.accepted.Due.{Due}
use Rattle.hd_view.proofs.DueCommands.{due_more, due_skip}
use Rattle.hd_view.proofs.accepted.add_due.Goals as goal

pub returns-in_default : goal.returns-in_default
returns-in_default c =
    due_skip c.args.before.now c.args.caller c.args.dues.now.items c.requires.below
    (sym c.in_default.ensures.command)

pub returns : goal.returns
returns c =
    let k = c.args.before.now in
    let old = c.args.dues.now.items in
    let new = c.push.new.items.items in
    let due : Due = record {
      caller = c.args.caller;
      number = c.number-number.result;
      cmd = c.in-Some.cmd;
      accepted = c.in_ok-accepted.accepted;
    } in
    IfOk-weaker c.push.result (λ _. new ≡ old ++ due ∷ []) (λ _. AreDueTo k (c.args.caller + 1) new)
    (λ _ is. due_more k c.args.caller old c.requires.below due new refl
    (record {
      due_is = sym c.in-Some.ensures.command;
      number_is = c.number-number.ensures;
      own = c.in_ok-accepted.ensures.own;
      entries = c.in_ok-accepted.ensures.entries;
    })
    c.in-Some.ensures.valid is)
    c.push.ensures
