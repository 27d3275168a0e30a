use Rattle.hd_run.proofs.Basics.{Entry, ap, arith, cond, count_entries, length, makes_object, sym, take, ℕ, ◌+◌, ◌<◌, ◌∙◌, ◌≡◌}
use Rattle.hd_run.proofs.JournalSums.{sum_more}
use Rattle.hd_run.proofs.summary.made.Goals.{Joined-makes_object, then-makes_object, else-makes_object}
use Rattle.hd_run.proofs.summary.made.Goals as goal

step : (c : Joined-makes_object) → count_entries makes_object
    (take (c.loop-i.i + 1) c.args.journal.now.entries)
    ≡ count_entries makes_object (take c.loop-i.i c.args.journal.now.entries) + cond c.makes_object.result 1 0
step c =
    let entries = c.args.journal.now.entries in
    let within : c.loop-i.i < length entries = omega (arith, c.loop-i-test.true, c.len-i-end.ensures.value) in
    sum_more (λ (e : Entry). cond (makes_object e.cmd e.reply) 1 0) entries c.loop-i.i c.entry.result within
    c.entry.ensures
    ∙ ap (λ b. count_entries makes_object (take c.loop-i.i entries) + cond b 1 0) (sym c.makes_object.ensures)

pub loop-i-preserved : goal.loop-i-preserved
loop-i-preserved c =
    elim c.if-makes_object.branch [
      | then-makes_object w ↦
          let one = ap (λ b. cond {A = ℕ} b 1 0) w.if-makes_object.true in
          record {
            counted = omega (arith, step c, one, c.loop-i.invariant.counted, w.count-is);
            few = omega (arith, c.loop-i.invariant.few, w.count-is);
          }
      | else-makes_object w ↦
          let none = ap (λ b. cond {A = ℕ} b 1 0) w.if-makes_object.false in
          record {
            counted = omega (arith, step c, none, c.loop-i.invariant.counted, w.count-is);
            few = omega (arith, c.loop-i.invariant.few, w.count-is);
          }
    ]
