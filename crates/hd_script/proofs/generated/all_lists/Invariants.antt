use Rattle.hd_script.proofs.Basics.{contents, generated_list, map, range_with_len, ◌≡◌}
use Rattle.hd_script.proofs.generated.all_lists.Given as goal

-- the lists are those of the callers so far
abbrev pub invariant-loop-caller : goal.invariant-loop-caller
invariant-loop-caller l = contents l.lists.items ≡ map (generated_list l.rounds) (range_with_len 0 l.caller)
