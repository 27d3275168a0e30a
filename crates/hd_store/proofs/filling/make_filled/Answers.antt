use Rattle.hd_store.proofs.StoreWords.{IfOk, Machine, None, Numbers, OnErr, ap, get, identity_of, last_serial, length, subst, sym, total_size, unwrap_or, ◌+◌, ◌<◌, ◌^◌, ◌∙◌, ◌≡◌, ◌≤◌}
use Rattle.hd_store.specs.Hosted.{Fills}
use Rattle.hd_store.proofs.HostedCalls.{filled-known, filled-name, filled-numbers}
use Rattle.hd_store.proofs.filling.make_filled.Goals as goal

pub add_in_current-requires-clause-sources : goal.add_in_current-requires-clause-sources
add_in_current-requires-clause-sources c = c.requires.sources

pub set_register-requires-clause-caller : goal.set_register-requires-clause-caller
set_register-requires-clause-caller c =
    subst (λ (n : Numbers). c.args.caller < n.callers) (sym (filled-numbers c.in-Some.ensures.0)) c.requires.caller

pub set_register-requires-clause-named : goal.set_register-requires-clause-named
set_register-requires-clause-named c = filled-known c.in-Some.ensures.0

pub returns-in-Some-clause-done : goal.returns-in-Some-clause-done
returns-in-Some-clause-done c = record {
  at = c.in-Some.at;
  filled = c.add_in_current.new.self;
  has = c.in-Some.ensures.0;
  held = c.set_register.ensures;
  id_is = c.in-Some.ensures.1
      ∙ sym (ap (λ (m : Machine). unwrap_or (get m.names c.in-Some.at.0) (record { 0 = 0 })) c.set_register.ensures
      ∙ ap (λ o. unwrap_or o (record { 0 = 0 })) (filled-name c.in-Some.ensures.0));
}

pub make_with_room-requires-clause-caller : goal.make_with_room-requires-clause-caller
make_with_room-requires-clause-caller c =
    subst (λ (m : Machine). c.args.caller < m.numbers.callers) (sym c.in-None.ensures) c.requires.caller

pub make_with_room-requires-clause-sources : goal.make_with_room-requires-clause-sources
make_with_room-requires-clause-sources c = c.requires.sources

pub make_with_room-requires-clause-serial : goal.make_with_room-requires-clause-serial
make_with_room-requires-clause-serial c =
    subst (λ (m : Machine). last_serial m.state c.args.caller + 1 < 2 ^ 32) (sym c.in-None.ensures)
    c.requires.serial

pub make_with_room-requires-clause-fresh : goal.make_with_room-requires-clause-fresh
make_with_room-requires-clause-fresh c =
    subst (λ (m : Machine).
    get m.state.objects (identity_of c.args.caller (last_serial m.state c.args.caller + 1)).0 ≡ None)
    (sym c.in-None.ensures) c.requires.fresh

pub returns-in-None-clause-done : goal.returns-in-None-clause-done
returns-in-None-clause-done c =
    subst (λ (m : Machine). IfOk c.make_with_room.result
    (Fills m c.args.caller c.args.d c.args.value c.args.fin c.args.src.now c.make_with_room.new.store))
    c.in-None.ensures c.make_with_room.ensures.done

pub returns-in-None-clause-fits : goal.returns-in-None-clause-fits
returns-in-None-clause-fits c =
    subst (λ (m : Machine). OnErr c.make_with_room.result
    (total_size m.state + (length c.args.src.now + 3) ≤ m.numbers.heap))
    c.in-None.ensures c.make_with_room.ensures.fits

pub returns-in-None-clause-unchanged : goal.returns-in-None-clause-unchanged
returns-in-None-clause-unchanged c =
    subst (λ (m : Machine). OnErr c.make_with_room.result (c.make_with_room.new.store ≡ m))
    c.in-None.ensures c.make_with_room.ensures.unchanged
