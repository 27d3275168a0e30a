use Rattle.hd_store.proofs.StoreWords.{Machine, Some, ap, register_of, subst, sym, ◌<◌, ◌∙◌}
use Rattle.hd_store.proofs.store.Store.register.Goals as goal

pub register-requires : goal.register-requires
register-requires c = (
  subst (λ (m : Machine). c.args.caller < m.numbers.callers) (sym c.self.view_is) c.requires.caller,
  c.requires.register,
)

pub returns-in_err-at : goal.returns-in_err-at
returns-in_err-at c =
    c.from_residual.ensures ∙ c.in_err-at.ensures.value
    ∙ ap (λ (m : Machine). register_of m.state c.args.caller c.args.d) c.self.view_is

pub id-requires : goal.id-requires
id-requires c = c.in_ok-at.ensures.named

pub returns : goal.returns
returns c =
    ap Some c.id.ensures ∙ c.in_ok-at.ensures.value
    ∙ ap (λ (m : Machine). register_of m.state c.args.caller c.args.d) c.self.view_is
