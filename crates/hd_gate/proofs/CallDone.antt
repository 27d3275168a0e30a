-- A call that was done, read with the rooms of its caller.
use Rattle.hd_gate.proofs.Basics.{CallerView, Cmd, FoundJournal, HadRoom, HasDone, ℕ, ◌+◌, ◌≡◌}
use Rattle.hd_model.specs.declared.data.Reply.{Reply}

module _ (old new : CallerView) (before after : ℕ) (command : Cmd) where
  abbrev found_with : FoundJournal old → FoundJournal (record old { room = before })
  found_with f = record {
    journal = f.journal;
    state = f.state;
    run = f.run;
    part = f.part;
    goes_on = f.goes_on;
  }

  pub room_with : HadRoom old new command
      → HadRoom (record old { room = before }) (record new { room = after }) command
  room_with h = record { found = found_with h.found; seen = h.seen; fits = h.fits }

  pub done_with : (answer : Reply) → after + 1 ≡ before → HasDone old new command answer
      → HasDone (record old { room = before }) (record new { room = after }) command answer
  done_with answer less d = record {
    entry = d.entry;
    found = found_with d.found;
    after = d.after;
    step = d.step;
    caller_is = d.caller_is;
    command_is = d.command_is;
    reply_is = d.reply_is;
    part = d.part;
    room = less;
    seen = d.seen;
    gate_steps = d.gate_steps;
    looked_for = d.looked_for;
    slot_calls = d.slot_calls;
  }
