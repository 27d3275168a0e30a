use Rattle.hdt_c.proofs.on_host.new_host.Goals as goal

pub returns-in-Ok-clause-made : goal.returns-in-Ok-clause-made
returns-in-Ok-clause-made c = record {
  numbers = c.in-Ok.ensures.numbers;
  state = c.in-Ok.ensures.state;
  ages = c.in-Ok.ensures.ages;
  stamps = c.in-Ok.ensures.stamps;
  last = c.in-Ok.ensures.last;
}
