use Rattle.hd_plan.proofs.Basics.{Basis, Counts, HasCondemned, HasNoEmptyCondemned, Heap, IsClosed, IsCondemned, IsField, IsSettled, IsSound, PlanOf, ap, length, objects_of, room_at, stays_in, subst, sym, true, vec_capacity, ℕ, ◌∙◌, ◌≡◌, ◌≤◌}
use Rattle.hd_plan.specs.Inside.{HasLayRoom, IsLaidTo}
use Rattle.hd_model.specs.declared.limits.TheConstants.{REGIONS}
use Rattle.hd_plan.proofs.LaidPlan.{IsLaidFrom, laid_from}
use Rattle.hd_plan.proofs.plan.Plan.lay.Goals.{After-lay_regions}
use Rattle.hd_plan.proofs.plan.Plan.lay.Given.{Over}
use Rattle.hd_plan.proofs.plan.Plan.lay.Goals as goal

pub lay_regions-requires-clause-room : goal.lay_regions-requires-clause-room
lay_regions-requires-clause-room g c =
    let same : c.self.inside.heap.value ≡ c.args.heap.now = ap (λ (p : PlanOf). p.basis.heap) c.self.view_is
    ∙ c.requires.heap in
    subst (λ (h : Heap). HasLayRoom h c.self.inside.condemned (vec_capacity c.self.inside.moves)
    (vec_capacity c.self.inside.regions) (length c.self.inside.forwards.firsts.items)
    (length c.self.inside.forwards.cells.items)) same c.self.invariant.room

pub lay_regions-requires-clause-condemned : goal.lay_regions-requires-clause-condemned
lay_regions-requires-clause-condemned g c =
    let same : c.self.inside.heap.value ≡ c.args.heap.now = ap (λ (p : PlanOf). p.basis.heap) c.self.view_is
    ∙ c.requires.heap in
    subst (λ (h : Heap). Counts (HasCondemned h c.self.inside.condemned) c.self.inside.extent.regions) same
    c.self.invariant.extent.regions

-- the plan that is laid
abbrev laid_of : (g : Over) → After-lay_regions g → PlanOf
laid_of g c = record {
  basis = record { heap = c.self.inside.heap.value; condemned = c.self.inside.condemned };
  moves = c.lay_regions.new.moves.items;
  regions = c.lay_regions.new.regions.items;
}

from : (g : Over) (c : After-lay_regions g)
    → IsLaidFrom (laid_of g c) (g.M.Marker.promoted c.args.marker.now) (g.M.Marker.pinned c.args.marker.now)
from g c =
    let promoted = g.M.Marker.promoted c.args.marker.now in
    let n : ℕ = c.self.inside.condemned in
    let basis : c.args.self.now.basis ≡ (laid_of g c).basis =
    sym (ap (λ (p : PlanOf). p.basis) c.self.view_is) in
    let same : c.args.heap.now ≡ c.self.inside.heap.value =
    sym c.requires.heap ∙ ap (λ (b : Basis). b.heap) basis in
    laid_from (subst IsSound same c.lay_regions.ensures.sound)
    (subst (λ (h : Heap). IsLaidTo h n promoted (g.M.Marker.pinned c.args.marker.now)
    c.lay_regions.new.moves.items c.lay_regions.new.regions.items c.lay_regions.new.forwards.firsts.items
    c.lay_regions.new.forwards.cells.items (room_at h c.lay_regions.new.moves.items
    (length c.lay_regions.new.moves.items)).cursors REGIONS) same c.lay_regions.ensures.laid)
    (subst (λ (b : Basis). IsSettled (objects_of b) b.condemned promoted) (c.requires.marker ∙ basis)
    (g.met.M.Marker.settles c.args.marker.now c.requires.settled))
    (subst (λ (b : Basis). b.condemned ≤ 2) basis c.requires.taken.generation)
    (subst (λ (b : Basis). IsClosed (IsField (objects_of b)) promoted) basis c.requires.closed)
    (subst (λ (h : Heap). HasNoEmptyCondemned h n) same
    (subst (λ (b : Basis). HasNoEmptyCondemned c.args.heap.now b.condemned) basis c.requires.full))

pub returns-clause-laid : goal.returns-clause-laid
returns-clause-laid g c = (from g c).laid

pub returns-clause-kept : goal.returns-clause-kept
returns-clause-kept g c = (from g c).kept

pub returns-clause-pinned : goal.returns-clause-pinned
returns-clause-pinned g c = (from g c).in_place

pub returns-clause-stays : goal.returns-clause-stays
returns-clause-stays g c =
    subst
    (λ (b : Basis). Counts (λ a. IsCondemned (objects_of b) b.condemned a
    × (g.M.Marker.promoted c.args.marker.now a ≡ true) × (g.M.Marker.pinned c.args.marker.now a ≡ true))
    (stays_in (laid_of g c)))
    (ap (λ (p : PlanOf). p.basis) c.self.view_is) (from g c).stays
