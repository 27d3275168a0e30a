use Rattle.hd_heap.proofs.Basics.{IsRun, Region, ap, area_run, arith, contents, deque_capacity, drop, length, move_at, refl, region_of, run_copied, set, subst, take, take-append_seam, ◌++◌, ◌+◌, ◌-◌, ◌<◌, ◌^◌, ◌∙◌, ◌≡◌}
use Rattle.hd_heap.proofs.{GenerationSums.AreSmall, GenerationSums.older_lists, GenerationSums.older_more, GenerationSums.shares_small, RegionReads.closed_none, RegionReads.opened, RegionReads.IsHeap, RegionReads.found, RegionReads.index_within, RegionReads.held_index, RegionUse.heap_lists, HeapSoundness.cells_small, HeapSoundness.objects_small, RunCopies.run_one, RegionCopy.source_read, RegionCopy.target_read, RegionCopy.may_put, RegionCopy.run_moved}
use Rattle.hd_heap.proofs.heap.Heap.copy_run.Given.{Over}
use Rattle.hd_heap.proofs.heap.Heap.copy_run.Goals.{After-copy_between-end}
use Rattle.hd_heap.proofs.heap.Heap.copy_run.Goals as goal

pub copy_between-end-requires : goal.copy_between-end-requires
unfolding region_of
copy_between-end-requires g c =
    let heap = opened c.self.inside c.self.view_is c.self.invariant in
    let ms = c.args.moves.now in
    let may = c.requires.run in
    let value = c.deref_mut.ensures.value in
    let long = ap length value in
    let from = (move_at ms c.args.first).from in
    let there = may.objects c.args.first (run_one ms c.args.first may.within) in
    let source = c.index_of-source.ensures in
    let target = c.index_of-target.ensures in
    let low = index_within heap from there source in
    let index = held_index heap may.held target in
    let number = (found heap from there).2.located.index.number in
    record {
      source = omega (arith, low, long);
      target = omega (arith, index.1, long);
      apart = λ same. may.apart (omega (arith, same, number, source, target, index.0));
      laid = c.requires.laid;
      may_copy = λ a b is_a is_b.
          let t = target_read heap ms c.args.first may value is_b target in (
            t.area,
            may_put heap ms c.args.first (source_read heap ms c.args.first may value is_a source) t
                (g.F.Forward.forwarding c.args.forward.now) may,
          );
    }

pub region_generation-generation-requires : goal.region_generation-generation-requires
unfolding region_of
region_generation-generation-requires g c = c.requires.run.held

-- the heap after the copies
moved : (g : Over) → (c : After-copy_between-end g)
    → let s = c.self.inside in let n = c.copy_between-end.result.0 - c.args.first in
    let new = c.copy_between-end.new.areas in
    let h = run_copied (g.F.Forward.forwarding c.args.forward.now) c.args.self.now c.args.moves.now c.args.first n in
    IsHeap (take s.areas.len (new ++ drop (length new) s.areas.items)) s.free.items s.limit
    (deque_capacity s.free) (s.used + c.copy_between-end.result.1, s.count + n, s.held)
    (s.current, s.carding, s.registering) h
moved g c =
    let new = c.copy_between-end.new.areas in
    let rest = drop (length new) c.self.inside.areas.items in
    let run = c.copy_between-end.ensures.run in
    let some = run.some in
    let whole : c.copy_between-end.result.0 ≡ c.args.first + (c.copy_between-end.result.0 - c.args.first) =
    omega arith in
    let long : c.self.inside.areas.len ≡ length new =
    omega (arith, c.deref_mut.ensures.len, c.copy_between-end.auto.areas) in
    let is = run_moved (opened c.self.inside c.self.view_is c.self.invariant) c.args.moves.now c.args.first
    c.requires.run c.requires.forwardings c.deref_mut.ensures.value c.index_of-source.ensures
    c.index_of-target.ensures c.copy_between-end.ensures.put (subst (IsRun c.args.moves.now c.args.first) whole run) in
    heap_lists (ap (λ n. take n (new ++ rest)) long ∙ take-append_seam new rest) refl is

-- there is room for the numbers of cells and of objects
small : (g : Over) → (c : After-copy_between-end g)
    → (c.self.inside.used + c.copy_between-end.result.1 < 2 ^ 32)
    × (c.self.inside.count + (c.copy_between-end.result.0 - c.args.first) < 2 ^ 32)
small g c =
    let is = moved g c in
    let cells = cells_small is in
    let few = is.kept.few in
    (omega arith, omega (arith, objects_small is))

pub overflow_add-self : goal.overflow_add-self
overflow_add-self g c = omega (arith, (small g ((goal.at.overflow_add-self g c).After-copy_between-end)).0)

pub overflow_cast-copies : goal.overflow_cast-copies
overflow_cast-copies g c = omega (arith, (small g ((goal.at.overflow_cast-copies g c).After-copy_between-end)).1)

pub overflow_add-self-2 : goal.overflow_add-self-2
overflow_add-self-2 g c = omega
    (arith, (small g ((goal.at.overflow_add-self-2 g c).After-copy_between-end)).1)

pub invariant_of-self : goal.invariant_of-self
unfolding region_of
invariant_of-self g c =
    let heap = opened c.self.inside c.self.view_is c.self.invariant in
    let new = c.copy_between-end.new.areas in
    let rest = drop (length new) c.self.inside.areas.items in
    let long : c.self.inside.areas.len ≡ length new =
    omega (arith, c.deref_mut.ensures.len, c.copy_between-end.auto.areas) in
    let put = c.copy_between-end.ensures.put in
    let value = c.deref_mut.ensures.value in
    let at = target_read heap c.args.moves.now c.args.first c.requires.run value put.target_is
    c.index_of-target.ensures in
    let n = c.copy_between-end.result.0 - c.args.first in
    let after = area_run (g.F.Forward.forwarding c.args.forward.now) (contents put.from) c.args.moves.now c.args.first
    n put.before in
    let list = ap (λ k. take k (new ++ rest)) long ∙ take-append_seam new rest ∙ put.list
    ∙ ap (λ xs. set xs c.index_of-target.result after) value in
    let is = moved g ((goal.at.invariant_of-self g c).After-copy_between-end) in
    let live : after.live ≡ put.before.live + c.copy_between-end.result.1 = omega (arith, put.cells_is) in
    closed_none is (older_lists list (older_more at.index after (subst AreSmall list (shares_small is)) at.held refl
    (c.region_generation-generation.ensures ∙ ap (λ (x : Region). x.generation) at.region) refl refl live
    c.size.ensures c.add.ensures c.self.invariant.4))

pub returns-clause-copied : goal.returns-clause-copied
returns-clause-copied g c = (moved g ((goal.at.returns-clause-copied g c).After-copy_between-end)).view
