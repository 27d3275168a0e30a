use Rattle.hd_view.proofs.shown.tables_of.Goals as goal

pub returns-in-Ok-clause-shown : goal.returns-in-Ok-clause-shown
returns-in-Ok-clause-shown g c = (c.in_ok-world.world, c.in_ok-world.ensures.ran, c.in-Ok.ensures)
