-- What a command returns, and how it leaves a machine.
use Rattle.std.specs.Prelude.{◌≡◌, ℕ, List, Option, Result, Ok, Err, None, Some}
use Rattle.hd_model.specs.declared.{command.Cmd.Cmd, data.Entry.Entry, data.Id.Id, data.Refusal.Refusal, data.Reply.Reply, data.Slot.Slot, data.Grown.Grown, data.Grown.TheVariants.Zero}
use Rattle.hd_model.specs.declared.data.Reply.TheVariants as reply
use Rattle.hd_model.specs.Command.{Outcome}
use Rattle.hd_commands.specs.declared.done.Done.{Done}
use Rattle.hd_model.specs.State.{State}
use Rattle.hd_commands.specs.Seen.{Seen}

-- what a command returns that gives and frees no slot
abbrev pub replied : Reply → Done
replied answer = record { reply = answer; slot = None; grown = Zero }

-- what a command came to whose reply is a function of the value that its call returned
abbrev pub done_with : {T : Type 0} → (T → Reply) → Result T Refusal → Result Done Refusal
done_with reply_of (Ok value) = Ok (replied (reply_of value))
done_with reply_of (Err refused) = Err refused

-- what an `hfree` came to whose call returned the slot that is freed
abbrev pub done_freeing : Result Slot Refusal → Result Done Refusal
done_freeing (Ok slot) = Ok (record { reply = reply.Done; slot = Some slot; grown = Zero })
done_freeing (Err refused) = Err refused

-- what an `hnew` came to whose call returned the slot of the handle and the blocks by which the table grew
abbrev pub done_making : Result (Slot × Grown) Refusal → Result Done Refusal
done_making (Ok made) = Ok (record { reply = reply.Done; slot = Some made.0; grown = made.1 })
done_making (Err refused) = Err refused

-- the reply of a `final`: the object that left the queue
abbrev pub queued_reply : Option Id → Reply
queued_reply None = reply.NoneQueued
queued_reply (Some id) = reply.Object id

-- what a command came to: a refused one gives and frees no slot
abbrev pub done_of : Result Done Refusal → Done
done_of (Ok done) = done
done_of (Err refused) = record { reply = reply.Refused refused; slot = None; grown = Zero }

-- the entry of a command of a caller that came to this
abbrev pub entry_by : ℕ → Cmd → Done → Entry
entry_by caller c done =
    record { caller = caller; cmd = c; slot = done.slot; grown = done.grown; reply = done.reply }

-- a machine became another, with this state and these ages, and all else is as it was
abbrev pub Becomes : {N R : Type 0} → Seen N R → State → List ℕ → Seen N R → Type 0
Becomes old after ages new =
    (new.numbers ≡ old.numbers) × (new.state ≡ after) × (new.ages ≡ ages) × (new.names ≡ old.names)
    × (new.rest ≡ old.rest)

-- a command came to an outcome and left such ages
abbrev pub ComesToAged : {N R : Type 0} → Outcome → List ℕ → Seen N R → Seen N R → Result Done Refusal → Type 0
ComesToAged wanted ages old new result =
    (done_of result ≡ record { reply = wanted.reply; slot = wanted.slot; grown = Zero })
    × Becomes old wanted.after ages new

abbrev pub ComesTo : {N R : Type 0} → Outcome → Seen N R → Seen N R → Result Done Refusal → Type 0
ComesTo wanted old new result = ComesToAged wanted old.ages old new result
