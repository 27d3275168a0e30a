use Rattle.hd_store.proofs.StoreWords.{Machine, Numbers, ap, get, is_some, subst, sym, ◌<◌, ◌∙◌}
use Rattle.hd_store.proofs.HostedCalls.{filled-known, filled-numbers}
use Rattle.hd_store.proofs.filling.make_with_room.Goals as goal

pub add_filled-requires-clause-sources : goal.add_filled-requires-clause-sources
add_filled-requires-clause-sources c = c.requires.sources

pub set_register-requires-clause-caller : goal.set_register-requires-clause-caller
set_register-requires-clause-caller c =
    subst (λ (n : Numbers). c.args.caller < n.callers) (sym (filled-numbers c.in-Ok.ensures.made)) c.requires.caller

pub set_register-requires-clause-named : goal.set_register-requires-clause-named
set_register-requires-clause-named c = filled-known c.in-Ok.ensures.made

pub id-requires : goal.id-requires
id-requires c =
    ap (λ (m : Machine). is_some (get m.names c.in-Ok.at.0)) c.set_register.ensures
    ∙ filled-known c.in-Ok.ensures.made

pub returns-in-Ok-clause-done : goal.returns-in-Ok-clause-done
returns-in-Ok-clause-done c = record {
  at = c.in-Ok.at;
  filled = c.add_filled.new.self;
  has = c.in-Ok.ensures.made;
  held = c.set_register.ensures;
  id_is = c.id.ensures;
}
