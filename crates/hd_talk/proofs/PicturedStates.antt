-- What is seen of a world is a picture of its state.
use Rattle.std.proofs.Common.{subst, ◌≡◌}
use Rattle.hd_model.proofs.WellFormedSteps.{run_is_well_formed}
use Rattle.hd_model.specs.PinnedAddresses.{with_pinned}
use Rattle.hd_model.specs.Run.{Run}
use Rattle.hd_links.specs.Shown.{IsPictureOf}
use Rattle.hd_seen.specs.Seen.{Picture, picture}
use Rattle.hd_snapshot.specs.Laws.{IsParted}
use Rattle.hd_snapshot.specs.Taken.{picture_of}
use Rattle.hd_store.specs.Store.{Machine}
use Rattle.hd_world.specs.World.{WorldView}
use Rattle.hd_talk.specs.Machine.{picture_in}

-- what is seen of a world of a run is a picture of its state
pub pictured : (w : WorldView) (p : Picture) → p ≡ picture_in w → Run w.numbers w.journal w.state
    → IsPictureOf p w.state
pictured w p sees run = record {
  numbers = w.numbers;
  ages = w.ages;
  heap = w.heap;
  table = w.table;
  well_formed = run_is_well_formed w.numbers w.journal w.state run;
  shows = sees;
}

-- what is seen of a world's store is what is seen of the world: pinned addresses are not seen
pub seen_of : (m : Machine) (w : WorldView) → m.numbers ≡ w.numbers
    → with_pinned m.state w.state.pinned ≡ w.state → m.ages ≡ w.ages → m.heap ≡ w.heap → m.table ≡ w.table
    → picture_of m ≡ picture_in w
seen_of m w numbers state ages heap table =
    λ i. picture (numbers i) (state i) (ages i) (heap i) (table i)

pub parted_in : (m : Machine) (w : WorldView) → m.numbers ≡ w.numbers
    → with_pinned m.state w.state.pinned ≡ w.state → m.ages ≡ w.ages → m.heap ≡ w.heap → m.table ≡ w.table
    → IsParted (picture_of m) → IsParted (picture_in w)
parted_in m w numbers state ages heap table =
    subst IsParted (seen_of m w numbers state ages heap table)
