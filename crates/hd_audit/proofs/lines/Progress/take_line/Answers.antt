use Rattle.std.proofs.Common.{[], ap, arith, refl, set, subst, sym, ◌++◌, ◌+◌, ◌-◌, ◌∙◌, ◌∷◌}
use Rattle.std.proofs.lemmas.Bool.{true≢false}
use Rattle.std.proofs.lemmas.Slice.Eq.{bytes_eq-Decides}
use Rattle.hd_model.specs.FullText.{full_line}
use Rattle.hd_plain.specs.ChosenSteps.{StepsBy}
use Rattle.hd_audit.specs.Inside.{IsJudged}
use Rattle.hd_audit.proofs.JudgedLines.{count_fits, addresses_apart, serial_fits, well_formed}
use Rattle.hd_audit.proofs.TakenLines.{no_command, no_step, number_read, one_more, other_line}
use Rattle.hd_audit.proofs.lines.Progress.take_line.Goals as goal

pub returns-in_default : goal.returns-in_default
returns-in_default c = λ lines along right.
    no_command along c.args.line.now c.by-choice.result c.by-choice.ensures c.requires.some right
    (sym c.in_default.ensures.command)

pub step-requires : goal.step-requires
step-requires c =
    let along = c.requires.along.1 in
    record {
      caller = omega (arith, c.in-Some.ensures.known refl, along.callers);
      valid = c.in-Some.ensures.valid;
      formed = well_formed along;
      serial = serial_fits along c.by-choice.result.caller;
      counts = λ slot handle is. count_fits along (record { 0 = slot }) handle is;
      apart = addresses_apart along;
    }

pub returns-in_default-2 : goal.returns-in_default-2
returns-in_default-2 c = λ lines along right.
    no_step along c.args.line.now c.by-choice.result c.by-choice.ensures c.requires.some right c.in-Some.cmd
    (sym c.in-Some.ensures.command)
    (subst (StepsBy c.args.self.now.machine c.in-Some.cmd c.by-choice.result c.step.new.self)
    c.in_default-2.is c.in_ok-entry.ensures)

pub returns-then-not-is_its_line : goal.returns-then-not-is_its_line
returns-then-not-is_its_line c =
    let the = subst (StepsBy c.args.self.now.machine c.in-Some.cmd c.by-choice.result c.step.new.self)
    c.in-Some-2.is c.in_ok-entry.ensures in
    λ lines along right.
    other_line along c.args.line.now c.by-choice.result c.by-choice.ensures c.requires.some right
    c.in-Some.cmd
    (sym c.in-Some.ensures.command) c.in-Some-2.entry the.only
    (λ same. true≢false (sym ((bytes_eq-Decides (full_line c.in-Some-2.entry (c.index.result.now + 1))
    c.args.line.now).1 (ap (full_line c.in-Some-2.entry)
    (number_read along c.by-choice.result.caller (c.in-Some.ensures.known refl) c.index.result.now
    c.index.ensures) ∙ sym same)) ∙ sym c.is_its_line.ensures ∙ c.if-not-is_its_line.true))

pub returns : goal.returns
returns c =
    let the = subst (StepsBy c.args.self.now.machine c.in-Some.cmd c.by-choice.result c.step.new.self)
    c.in-Some-2.is c.in_ok-entry.ensures in (
      the.numbers,
      λ lines along. subst (λ n. IsJudged n c.args.scripts.now c.step.new.self.state
          (set c.args.self.now.done.items c.by-choice.result.caller (c.index.result.now + 1))
          (c.args.self.now.left - 1) (c.args.self.now.collections + c.collected.result)
          (lines ++ c.args.line.now ∷ [])) (sym the.numbers)
          (one_more along c.args.line.now c.by-choice.result c.by-choice.ensures c.in-Some.cmd
          (sym c.in-Some.ensures.command) c.in-Some-2.entry c.step.new.self.state the.step the.caller
          the.command (c.index.result.now + 1)
          (number_read along c.by-choice.result.caller (c.in-Some.ensures.known refl) c.index.result.now
          c.index.ensures)
          (sym ((bytes_eq-Decides (full_line c.in-Some-2.entry (c.index.result.now + 1)) c.args.line.now).0
          (sym c.is_its_line.ensures ∙ c.if-not-is_its_line.false))) c.requires.some c.collected.result
          c.collected.ensures),
    )
