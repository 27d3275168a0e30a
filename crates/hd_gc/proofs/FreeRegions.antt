-- Free regions are nothing to a collection, but for their number.
use Rattle.hd_gc.proofs.Basics.{Collected, Heap, IsReady, List, Parts, Report, ap, arith, len, subst, sym, ℕ, ◌+◌, ◌∙◌, ◌≡◌}
use Rattle.hd_gc.specs.Collected.{HoldsRegions}
use Rattle.hd_plan.specs.Commit.{all_regions}
use Rattle.hd_plan.specs.Plan.{FreeAtMost, FreeNeeded}

ready_with : {p : Parts} (free : List ℕ) → IsReady p
    → IsReady (record p { heap = record p.heap { free = free } })
ready_with free r = record {
  whole = r.whole;
  identities = r.identities;
  ages_sound = r.ages_sound;
  cards_sound = r.cards_sound;
  full = λ r0 held.
      let start = r.full r0 held in
      record { at = start.at; object = start.object; region = start.region };
  clumps = r.clumps;
  room = r.room;
}

pub ready_with_free : {p : Parts} {k : Heap} → k ≡ record p.heap { free = k.free } → IsReady p
    → IsReady (record p { heap = k })
ready_with_free {p} {k} same r =
    subst (λ (g : Heap). IsReady (record p { heap = g })) (sym same) (ready_with k.free r)

collected_with : {p q : Parts} {free : List ℕ} {n : ℕ} {report : Report} {a b : ℕ}
    → Collected (record p { heap = record p.heap { free = free } }) q n report a b
    → Collected p q n report a b
collected_with c = record {
  collects = c.collects;
  ready = c.ready;
  pinned = c.pinned;
  older = c.older;
  aged = c.aged;
  cards = c.cards;
  used = c.used;
  limit = c.limit;
  table = c.table;
  room = c.room;
  steps = c.steps;
  packed = record {
    pinned = c.packed.pinned;
    pinned_is = c.packed.pinned_is;
    regions = record {
      older = c.packed.regions.older;
      regions = c.packed.regions.regions;
      regions_are = c.packed.regions.regions_are;
      cells = c.packed.regions.cells;
      cells_are = c.packed.regions.cells_are;
      few = c.packed.regions.few;
    };
  };
  compact = c.compact;
}

pub collected_with_free : {p q : Parts} {k : Heap} {n : ℕ} {report : Report} {a b : ℕ}
    → k ≡ record p.heap { free = k.free } → Collected (record p { heap = k }) q n report a b
    → Collected p q n report a b
collected_with_free {p} {q} {k} {n} {report} {a} {b} same c =
    collected_with {free = k.free}
    (subst (λ (g : Heap). Collected (record p { heap = g }) q n report a b) same c)

-- what a plan took is within what is needed
pub at_most : {old new : Heap} {n : ℕ} → FreeNeeded old new n → FreeAtMost old new n
at_most f = record { needed = f.needed; needs = f.needs; free = omega (arith, f.free) }

-- after free regions were added for a plan, registrations were lost and the plan was carried out
pub holds_regions : {old taken middle new : Heap} {n : ℕ} → taken ≡ record old { free = taken.free }
    → FreeNeeded old taken n → middle ≡ record taken { objects = middle.objects }
    → all_regions new ≡ all_regions middle → HoldsRegions old new n
holds_regions {old} {taken} {middle} {new} {n} same f shape number = record {
  needed = f.needed;
  needs = f.needs;
  number = number ∙ ap {B = ℕ} (λ (h : Heap). all_regions h) shape
      ∙ (λ i. len (same i).regions + f.free i);
}
