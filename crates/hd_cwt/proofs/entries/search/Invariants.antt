use Rattle.hd_cwt.proofs.Basics.{bucket_of, by_index, entries_in, ◌+◌, ◌-◌}
use Rattle.hd_cwt.proofs.KeySearch.{IsSearching}
use Rattle.hd_cwt.proofs.entries.search.Given as goal

abbrev pub invariant-loop-at : goal.invariant-loop-at
invariant-loop-at g l = IsSearching l.buckets l.held l.next l.end l.key l.at l.fn.steps l.steps

abbrev pub decreases-loop-at : goal.decreases-loop-at
decreases-loop-at g l =
    l.fn.steps + entries_in l.buckets (by_index l.held) (bucket_of l.buckets l.key) - l.steps
