use Rattle.hd_run.proofs.Basics.{None, Some, found_of, rules, ◌∙◌}
use Rattle.hd_run.proofs.MatchRequests.{heap_in_limits, blocks_in_limits, asked_in_limits, asked_none, asked_mode}
use Rattle.hd_run.proofs.request.asked_by.Goals as goal

pub returns-in_err-get_str-clause-value : goal.returns-in_err-get_str-clause-value
returns-in_err-get_str-clause-value c = c.from_residual.ensures ∙ asked_none (found_of c.args.matches.now)
    (search rules)

pub returns-in_err-mode-clause-value : goal.returns-in_err-mode-clause-value
returns-in_err-mode-clause-value c =
    c.from_residual-in_err-mode.ensures
    ∙ asked_mode (found_of c.args.matches.now) c.in_ok-get_str.field-0.now None (search rules) (search rules)

pub new-requires-clause-heap : goal.new-requires-clause-heap
new-requires-clause-heap c =
    rw c.number_of-heap.ensures (heap_in_limits (found_of c.args.matches.now) c.requires)

pub new-requires-clause-blocks : goal.new-requires-clause-blocks
new-requires-clause-blocks c =
    rw c.number_of-blocks.ensures (blocks_in_limits (found_of c.args.matches.now) c.requires)

pub returns-clause-value : goal.returns-clause-value
returns-clause-value c =
    rw (
      c.new.ensures,
      c.number_of-heap.ensures,
      c.number_of-blocks.ensures,
      c.number_of-rounds.ensures,
      c.of-2.ensures,
      c.is_given-slots.ensures,
    )
    (asked_mode (found_of c.args.matches.now) c.in_ok-get_str.field-0.now (Some c.in_ok-mode.mode)
    (search rules)
    (search rules))

pub returns-clause-limits : goal.returns-clause-limits
returns-clause-limits c =
    rw (
      c.new.ensures,
      c.number_of-heap.ensures,
      c.number_of-blocks.ensures,
      c.number_of-rounds.ensures,
      c.of-2.ensures,
      c.is_given-slots.ensures,
    )
    (asked_in_limits (found_of c.args.matches.now) c.in_ok-mode.mode c.requires)
