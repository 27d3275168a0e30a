-- How much is condemned, and how many free regions a plan takes.
use Rattle.hd_plan.proofs.Basics.{Extent, Heap, IsExtent, IsToLay, List, REGION, ℕ, ◌*◌, ◌<◌, ◌^◌, ◌≤◌, arith, FreeAtMost, length, max, refl, ◌+◌, ◌/◌}
use Rattle.hd_plan.specs.Inside.{HasLayRoom}
use Rattle.hd_plan.proofs.CondemnedAddresses.{condemned_of, condemned_is}
use Rattle.hd_model.specs.declared.limits.TheConstants.{LEFT, OPEN}

pub to_lay : (h : Heap) (n : ℕ) (e : Extent) → IsExtent h n e → IsToLay h n e
to_lay h n e is =
    let o = is.objects in
    record {
      extent = is;
      cells = record {
        members = o.members;
        apart = o.apart;
        each = λ a c. condemned_of h n a (o.each a c);
        all = λ a c. o.all a (condemned_is h n a c);
        sum = o.sum;
      };
    }

-- free regions do not count
pub extent_free : (h : Heap) (n : ℕ) (free : List ℕ) (e : Extent) → IsExtent h n e
    → IsExtent (record h { free = free }) n e
extent_free h n free e is =
    let o = is.objects in
    record {
      objects = record {
        members = o.members;
        apart = o.apart;
        each = o.each;
        all = o.all;
        number = o.number;
        sum = o.sum;
      };
      regions = is.regions;
      above = is.above;
      small = is.small;
    }

-- there is room for all that is condemned
pub extent_room : {h : Heap} {n : ℕ} {e : Extent} (room_ms room_cs firsts cells : ℕ) → IsExtent h n e
    → e.regions < 2 ^ 32 → e.objects ≤ room_ms → e.regions ≤ room_cs → e.end ≤ firsts
    → REGION * e.regions ≤ cells → HasLayRoom h n room_ms room_cs firsts cells
extent_room {h} {n} {e} room_ms room_cs firsts cells is small objects regions end table =
    let o = is.objects in
    record {
      moves = record {
        count = e.objects;
        count_is =
            record { members = o.members; apart = o.apart; each = o.each; all = o.all; number = o.number };
        enough = objects;
      };
      regions = record {
        count = e.regions;
        count_is = is.regions;
        small = small;
        enough = regions;
        table = table;
      };
      span = λ a has. omega (arith, is.above a has, end);
    }

pub free_at_most : (old new : Heap) (n : ℕ) (e : Extent) → IsToLay old n e
    → length new.free ≤ max (e.cells / LEFT + OPEN) (length old.free) → FreeAtMost old new n
free_at_most old new n e is free = record {
  needed = e.cells / LEFT + OPEN;
  needs = record { cells = e.cells; cells_are = is.cells; needed_is = refl };
  free = free;
}
