use Rattle.hdt_c.specs.Outs.{no_room, nothing_left}
use Rattle.hdt_c.proofs.on_lists.slot_after.Goals as goal

pub returns-in-Some : goal.returns-in-Some
returns-in-Some c = no_room c.args.at c.in-Some.listed c.in-Some.ensures.next

pub returns-in-None : goal.returns-in-None
returns-in-None c = nothing_left c.args.at c.in-None.ensures.next
