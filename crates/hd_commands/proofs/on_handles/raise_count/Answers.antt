use Rattle.hd_commands.specs.Handles.{handle_named}
use Rattle.hd_commands.proofs.on_handles.raise_count.Goals as goal

pub raise_count_of-requires-clause-small : goal.raise_count_of-requires-clause-small
raise_count_of-requires-clause-small g c =
    let found = c.in_ok-slot in
    c.requires.small found.slot (handle_named (g.P.Parts.seen c.args.parts.now) found.handle)
    found.ensures.found.0 found.ensures.found.1
