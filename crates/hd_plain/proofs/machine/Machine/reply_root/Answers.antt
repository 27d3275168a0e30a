use Rattle.std.proofs.Common.{sym, ◌∙◌}
use Rattle.std.proofs.lemmas.Option.{MatchOption-at_none, MatchOption-at_some}
use Rattle.hd_plain.proofs.RootReplies.{root_chain, root_none, root_null}
use Rattle.hd_plain.proofs.machine.Machine.reply_root.Goals as goal

pub returns-in_default : goal.returns-in_default
returns-in_default c =
    root_null c.args.self.now c.args.caller c.args.s (sym c.register.ensures ∙ c.in_default.is)

pub returns-in-Some-found : goal.returns-in-Some-found
returns-in-Some-found c =
    let o = c.in-Some-found.field-0 in
    root_chain c.args.self.now c.args.caller c.args.s c.in-Some.goal (sym c.register.ensures ∙ c.in-Some.is)
    c.of.result o.from o.edges c.of.ensures
    (MatchOption-at_some _ _ o c.in-Some-found.is c.in_ok-found.ensures.shortest)

pub returns-in-None : goal.returns-in-None
returns-in-None c =
    root_none c.args.self.now c.args.caller c.args.s c.in-Some.goal (sym c.register.ensures ∙ c.in-Some.is)
    c.of-in-None.result c.of-in-None.ensures
    (MatchOption-at_none _ _ c.in-None.is c.in_ok-found.ensures.shortest)
