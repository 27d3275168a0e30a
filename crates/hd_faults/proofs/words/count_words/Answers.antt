use Rattle.hd_script.proofs.Basics.{ap, arith, length}
use Rattle.hd_faults.proofs.words.count_words.Goals as goal

pub words-smaller : goal.words-smaller
words-smaller c = omega (arith, c.in-Some.ensures.room, c.in-Some.ensures.after)

pub words-preserved : goal.words-preserved
words-preserved c = record {
  all = omega (arith, c.words.invariant.all, ap length c.in-Some.ensures.words);
  room = omega (arith, c.words.invariant.room, c.in-Some.ensures.room);
  few = omega (arith, c.words.invariant.few, c.in-Some.ensures.after);
}
