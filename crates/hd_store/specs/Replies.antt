-- What calls by value return, as replies of commands.
use Rattle.std.specs.Prelude.{Bool, ℕ, true, false, Option, Some, None}
use Rattle.hd_model.specs.{declared.data.Grown.Grown, declared.data.Reply.Reply, Command.load_reply}
use Rattle.hd_model.specs.declared.data.Grown.TheVariants.{Zero, One, Two, Back}
use Rattle.hd_model.specs.declared.data.Reply.TheVariants as reply
use Rattle.hd_commands.specs.declared.done.Done.{Done}
use Rattle.hd_store.specs.declared.entry_calls.Lookup.{Lookup}
use Rattle.hd_store.specs.declared.entry_calls.Lookup.TheVariants as found
use Rattle.hd_store.specs.declared.collection_calls.Root.{Root}

-- what is found in the weak table
abbrev pub found_reply : Lookup → Reply
found_reply (found.Value id) = load_reply id
found_reply found.Absent = reply.Absent

-- whether an entry was taken out of it
abbrev pub removed_reply : Bool → Reply
removed_reply true = reply.Done
removed_reply false = reply.Absent

-- where a shortest chain begins
abbrev pub root_reply : Option Root → Reply
root_reply None = reply.Unrooted
root_reply (Some root) = reply.Chain root.from root.arrows

-- the number of blocks that `trim` gave back
abbrev pub given_back : Grown → ℕ
given_back Zero = 0
given_back (One block) = 0
given_back (Two block other) = 0
given_back (Back block) = 1

-- what a `trim` came to whose call returned the block that it gave back
abbrev pub done_trimming : Grown → Done
done_trimming grown = record { reply = reply.Value (given_back grown); slot = None; grown = grown }
