use Rattle.hd_store.proofs.StoreWords.{Machine, Some, ap, option_map, register_of, ◌∙◌}
use Rattle.hd_store.specs.Hosted.{object_report}
use Rattle.hd_store.proofs.ValueCalls.{known-in}
use Rattle.hd_store.proofs.store.Store.object_info.Goals as goal

pub register-requires : goal.register-requires
register-requires c = (known-in c.self.view_is c.requires.caller, c.requires.register)

pub returns-in_err-at : goal.returns-in_err-at
returns-in_err-at c =
    c.from_residual.ensures
    ∙ ap (option_map (object_report c.args.self.now.state)) (c.in_err-at.ensures.value
    ∙ ap (λ (m : Machine). register_of m.state c.args.caller c.args.o) c.self.view_is)

pub object_info-requires : goal.object_info-requires
object_info-requires c = c.in_ok-at.ensures.named

pub returns : goal.returns
returns c =
    let m = c.self.inside.contents in
    ap Some c.object_info.ensures ∙ ap (option_map (object_report m.state)) c.in_ok-at.ensures.value
    ∙ ap (λ (x : Machine). option_map (object_report x.state) (register_of x.state c.args.caller c.args.o))
    c.self.view_is
