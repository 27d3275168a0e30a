use Rattle.std.proofs.Common.{take, ◌*◌, ◌+◌, ◌/◌, ◌≡◌, ◌≤◌}
use Rattle.std.specs.List.{count_by, range_with_len}
use Rattle.hd_model.specs.declared.limits.TheConstants.{CARD, REGION}
use Rattle.hd_model.specs.Heap.{is_set}
use Rattle.hd_snapshot.proofs.regions.set_cards.Given as goal

-- those of the cards so far
abbrev pub invariant-loop-card : goal.invariant-loop-card
invariant-loop-card l = record {
  count : l.cards ≡ count_by (λ k. is_set l.heap (l.number * (REGION / CARD) + k))
      (take l.card (range_with_len 0 (REGION / CARD)));
  few : l.cards ≤ l.card;
}
