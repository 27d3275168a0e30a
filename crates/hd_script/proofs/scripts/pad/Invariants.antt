use Rattle.hd_script.proofs.Basics.{AreLists, [], contents, get_or, length, max, sum_by, ℕ, ◌-◌, ◌≡◌, ◌≤◌}
use Rattle.hd_script.proofs.scripts.pad.Given as goal

-- the lists so far are those at the start, with further callers that have no commands
abbrev pub invariant-loop-alloc : goal.invariant-loop-alloc
invariant-loop-alloc l = record {
  lists : AreLists (contents l.lists.items);
  total : sum_by length (contents l.lists.items) ≡ sum_by length (contents l.fn.lists.items);
  same : (wanted : ℕ) → get_or (contents l.lists.items) wanted []
      ≡ get_or (contents l.fn.lists.items) wanted [];
  longer : length l.fn.lists.items ≤ length l.lists.items;
  wanted : length l.lists.items ≤ max (length l.fn.lists.items) l.callers;
}

abbrev pub decreases-loop-alloc : goal.decreases-loop-alloc
decreases-loop-alloc l = l.callers - length l.lists.items
