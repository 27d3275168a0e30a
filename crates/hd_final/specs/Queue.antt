-- What the type of a finalization queue keeps.
use Rattle.std.specs.Prelude.{◌≢◌, ◌^◌, ◌<◌, ◌≤◌, length, AllPairs}
use Rattle.hd_model.specs.Table.{Queue}

-- nothing is queued twice, and no more is queued than there is room for
pub record IsQueue (q : Queue) : Type 0 where
  pub once : AllPairs (λ x y. x ≢ y) q.queued
  pub fits : length q.queued ≤ q.room
  pub low : q.room < 2 ^ 32
