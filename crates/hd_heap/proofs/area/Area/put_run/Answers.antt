use Rattle.hd_heap.proofs.Basics.{ArePut, Contents, ap, arith, cells_run, contents, ◌+◌, ◌-◌, ◌≡◌, ◌≤◌}
use Rattle.hd_heap.proofs.{Areas.count_small, RunCopies.run_fill, RunCopies.run_many}
use Rattle.std.specs.Box.{with_value}
use Rattle.hd_heap.proofs.area.Area.put_run.Given.{Over}
use Rattle.hd_heap.proofs.area.Area.put_run.Goals.{After-fill}
use Rattle.hd_heap.proofs.area.Area.put_run.Goals as goal

put : (g : Over) → (c : After-fill g) → ArePut (g.F.Forward.forwarding c.args.forward.now) (contents c.args.source.now)
    c.args.moves.now c.args.first c.copy_run-end.result (contents c.args.self.now) c.copy_run-end.new.region
put g c = rw (c.deref-2.ensures, c.deref_mut.ensures.value) at c.copy_run-end.ensures

-- the cells, of which each object takes some
filled : (g : Over) → (c : After-fill g)
    → let n = c.copy_run-end.result - c.args.first in
    (c.fill.result ≡ c.fill-before.result + cells_run (contents c.args.source.now) c.args.moves.now c.args.first n)
    × (n ≤ 256)
filled g c =
    let n = c.copy_run-end.result - c.args.first in
    let forwarding = g.F.Forward.forwarding c.args.forward.now in
    let source = contents c.args.source.now in
    let risen : c.fill.result ≡ c.fill-before.result + cells_run source c.args.moves.now c.args.first n = omega (
      arith,
      c.fill.ensures.value,
      c.fill-before.ensures.value,
      ap (λ (r : Contents). r.fill) c.deref.ensures,
      ap (λ (r : Contents). r.fill) c.deref-3.ensures,
      ap (λ (r : Contents). r.fill) (put g c).is,
      run_fill forwarding source c.args.moves.now c.args.first n (contents c.args.self.now),
    ) in (
      risen,
      omega (
        arith,
        risen,
        c.fill.ensures.value,
        c.fill.ensures.laid_out.within_region,
        run_many forwarding source c.args.moves.now c.args.first n,
      ),
    )

pub overflow_sub-cells : goal.overflow_sub-cells
overflow_sub-cells g c = omega (arith, (filled g ((goal.at.overflow_sub-cells g c).After-fill)).0)

pub overflow_cast-self : goal.overflow_cast-self
overflow_cast-self g c = omega (arith, (filled g ((goal.at.overflow_cast-self g c).After-fill)).1)

pub overflow_add-self-2 : goal.overflow_add-self-2
overflow_add-self-2 g c = omega (
  arith,
  (filled g ((goal.at.overflow_add-self-2 g c).After-fill)).1,
  count_small c.args.self.now c.requires.area,
)

pub returns : goal.returns
returns g c =
    let after = (goal.at.returns g c).After-fill in
    let put = put g after in
    let cells : c.fill.result - c.fill-before.result ≡ cells_run (contents c.args.source.now) c.args.moves.now
    c.args.first (c.copy_run-end.result - c.args.first) = omega (arith, (filled g after).0) in
    record {
      run = put.run;
      put = λ i. record c.args.self.now {
        region = with_value c.args.self.now.region (put.is i);
        live = c.args.self.now.live + cells i;
        count = c.args.self.now.count + (c.copy_run-end.result - c.args.first);
      };
      laid_out = put.laid_out;
      cells = cells;
    }
