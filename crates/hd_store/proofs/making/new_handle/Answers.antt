use Rattle.hd_store.proofs.StoreWords.{Numbers, subst, sym, ◌<◌}
use Rattle.hd_store.proofs.making.new_handle.Goals as goal

pub set_handle_register-requires-clause-caller : goal.set_handle_register-requires-clause-caller
set_handle_register-requires-clause-caller c =
    subst (λ (n : Numbers). c.args.caller < n.callers) (sym (c.in-Ok.ensures 0).effect.numbers)
    c.requires.caller

pub returns-in-Err : goal.returns-in-Err
returns-in-Err c = c.in-Err.ensures c.args.d
