use Rattle.hd_script.proofs.Basics.{arith, below_more, false, get_or, is_stop, sym, ℕ, ◌∙◌, ◌≡◌}
use Rattle.hd_script.proofs.LineSplit.{stop_at, no_stop_at}
use Rattle.hd_script.proofs.text.word_end.Goals as goal

pub bytes-init : goal.bytes-init
bytes-init c = (omega arith, λ k below. absurd (omega (arith, below)))

pub bytes-preserved : goal.bytes-preserved
bytes-preserved c = (
  omega arith,
  below_more (λ (k : ℕ). is_stop (get_or c.args.bytes.now k 0) ≡ false) c.bytes.end c.bytes.invariant.1
      (sym c.stops.ensures ∙ c.if-stops.false),
)

pub returns-then-stops-clause-first : goal.returns-then-stops-clause-first
returns-then-stops-clause-first c =
    stop_at c.args.bytes.now c.bytes.end c.bytes.invariant.1 (omega arith)
    (sym c.stops.ensures ∙ c.if-stops.true)

pub returns-clause-first : goal.returns-clause-first
returns-clause-first c = no_stop_at c.args.bytes.now c.bytes.end c.bytes.invariant.1 (omega arith)
