-- Lemmas on a list of regions that is split, and on copies from one region of a heap into another one.
use Rattle.hd_heap.proofs.Basics.{Addr, AreLaidOut, ArePutBetween, Area, Bool, Contains, Heap, IsLaidOut, IsRun, List, MayPutRun, MayRun, Move, Option, Placed, REGION, Region, ap, area_run, arith, cells_of, cells_run, contents, forwarded, get_or, get_or-append_right, get_or_append_left, has_object, length, length-map, length-set, move_at, object_of, option_map, placed_at, put_run, refl, region_at, region_forwarded, region_of, run_copied, set, set-append_left, set-append_right, set-get_or, set-set, size_of, stored_forwarding, subst, suc, sym, true, unwrap_or, with_moved, zero, ℕ, ◌*◌, ◌++◌, ◌+◌, ◌-◌, ◌/◌, ◌<◌, ◌∙◌, ◌≡◌, ◌≢◌}
use Rattle.hd_heap.proofs.{Areas.area_after_put, RunCopies.run_one, RunCopies.run_part, RunCopies.run_regions, RunCopies.run_fill, RegionReads.IsHeap, RegionReads.IsHeldAt, RegionReads.IsFound, RegionReads.IsIndex, RegionReads.noted, RegionReads.index_reads, RegionReads.area_here, RegionReads.area_other, RegionReads.found_at, RegionReads.has_there, RegionReads.located_by, RegionReads.found_read, RegionReads.held_read, RegionReads.object_of as found_object, RegionSums.cells_placed, RegionChanges.object_put, FieldForward.field_of, FieldForward.forwarded_placed, HeapValues.get_same, HeapValues.get_other, HeapValues.no_placed}
use Rattle.std.specs.FinMap as fin

-- two regions of a list, and the list with another one in the place of the second
pub record IsPair (xs : List Area) (i j : ℕ) (a b : Area) (out : Area → List Area) : Type 0 where
  pub source : a ≡ get_or xs i a
  pub target : b ≡ get_or xs j b
  pub written : (z : Area) → out z ≡ set xs j z

-- one of the first part of a list, and the first of the other part
module _ {xs : List Area} (low high : List Area) {mid k : ℕ} {r q : Area} (whole : xs ≡ low ++ high)
    (front : length low ≡ mid) (below : k < mid) (is_r : r ≡ get_or low k r) (is_q : q ≡ get_or high 0 q) where
  read_low : get_or low k r ≡ get_or xs k (get_or low k r)
  read_low = ap (get_or low k) is_r ∙ sym (ap (λ ys. get_or ys k (get_or low k r)) whole
      ∙ get_or_append_left low high (get_or low k r) k (omega arith))

  read_high : get_or high 0 q ≡ get_or xs mid (get_or high 0 q)
  read_high = ap (get_or high 0) is_q ∙ sym (ap (λ ys. get_or ys mid (get_or high 0 q)) whole
      ∙ get_or-append_right low high mid mid (get_or high 0 q) front (omega arith)
      ∙ ap (λ n. get_or high n (get_or high 0 q)) (omega arith))

  pub pair_high : IsPair xs k mid (get_or low k r) (get_or high 0 q) (λ z. low ++ set high 0 z)
  pair_high = record {
    source = read_low;
    target = read_high;
    written = λ z. sym (ap (λ ys. set ys mid z) whole ∙ set-append_right low high mid mid z front (omega arith)
        ∙ ap (λ n. low ++ set high n z) (omega arith));
  }

  pub pair_low : IsPair xs mid k (get_or high 0 q) (get_or low k r) (λ z. set low k z ++ high)
  pair_low = record {
    source = read_high;
    target = read_low;
    written = λ z. sym (ap (λ ys. set ys k z) whole ∙ set-append_left low high k z (omega arith));
  }

pub put_between : {forwarding : Addr → Addr} {xs : List Area} {i j first n cells : ℕ} {a b z : Area}
    {out : Area → List Area} {ms : List Move} → IsPair xs i j a b out
    → z ≡ area_run forwarding (contents a) ms first n b
    → AreLaidOut forwarding (contents a) ms first n (contents b)
    → cells ≡ cells_run (contents a) ms first n → ArePutBetween forwarding xs (out z) i j ms first n cells
put_between {xs = xs} {j = j} {a = a} {b} {z} p put laid cells = record {
  from = a;
  before = b;
  source_is = p.source;
  target_is = p.target;
  list = p.written z ∙ ap (set xs j) put;
  laid_out = laid;
  cells_is = cells;
}

-- a run from one region of a heap into another one
module _ {areas : List Area} {numbers : List ℕ} {limit capacity cells objects holds : ℕ}
    {notes : ℕ × Bool × Bool} {h : Heap}
    (heap : IsHeap areas numbers limit capacity (cells, objects, holds) notes h) (ms : List Move)
    (first : ℕ) {k m : ℕ} {a b : Area} (f : IsFound areas h (move_at ms first).from k a)
    (t : IsHeldAt areas h (region_of (move_at ms first).to) m b) (forwarding : Addr → Addr) where
  module _ {kept : Addr → Bool} (may : MayRun kept forwarding h ms first) where
    found_in : (j : ℕ) → IsRun ms first (j + 1) → IsFound areas h (move_at ms j).from k a
    found_in j run = found_at heap (move_at ms j).from
        (subst (λ q. IsIndex areas q k a) (sym (run_regions ms first j run).0) f.located.index)
        (may.objects j run)

    size_in : (j : ℕ) → IsRun ms first (j + 1)
        → cells_of (placed_at h (move_at ms j).from) ≡ size_of (object_of (contents a) ms j)
    size_in j run = ap cells_of (found_in j run).placed ∙ cells_placed (object_of (contents a) ms j)

    -- where the next copy goes, and what is elsewhere
    record IsRead (n : ℕ) (x : Heap) : Type 0 where
      fill : (region_at x (region_of (move_at ms first).to)).fill
          ≡ (contents b).fill + cells_run (contents a) ms first n
      others : (q : ℕ) → q / REGION ≢ region_of (move_at ms first).to
          → fin.get x.objects q ≡ fin.get h.objects q

    reads : (n : ℕ) → IsRun ms first (first + n + 1) → IsRead n (run_copied forwarding h ms first n)
    unfolding run_copied cells_run region_of
    reads zero run = record {
      fill = omega (arith, ap (λ (g : Region). g.fill) t.region);
      others = λ q apart. refl;
    }
    reads (suc n) run =
        let before = run_part ms first (first + n + 1) _ run (omega arith) (omega arith) in
        let was = reads n before in
        let from = (move_at ms (first + n)).from in
        let r = region_of (move_at ms first).to in
        let x = run_copied forwarding h ms first n in
        let (there, to) = run_regions ms first (first + n) before in
        let room = may.room n before in
        let stays : placed_at x from ≡ placed_at h from =
        ap (λ (o : Option Placed). unwrap_or o no_placed) (was.others from.0 (λ e. may.apart (sym there ∙ e))) in
        let size = length-map (placed_at x from).fields (option_map forwarding) in
        subst (IsRead (suc n)) (ap (λ q. with_moved x from q forwarding) (sym to)) (record {
          fill = ap (λ (o : Option Region). (unwrap_or o (record { generation = 0; fill = 0 })).fill)
              (get_same x.regions r r _ refl)
              ∙ omega (arith, was.fill, size, ap cells_of stays, size_in (first + n) before);
          others = λ q apart. get_other x.objects (r * REGION + (region_at x r).fill) q _
              (λ e. apart (omega (arith, e, room))) ∙ was.others q apart;
        })

    pub may_put : MayPutRun kept (contents a) (contents b) ms first
    may_put = record {
      within = may.within;
      objects = λ j run. (found_in j run).object;
      fields = λ j run. field_of (λ y. kept y ≡ true) h (move_at ms j).from (object_of (contents a) ms j).fields
          (found_object (move_at ms j).from (found_in j run)).fields (may.kept_fields j run);
      room = λ j run.
          let some = run.some in
          let n = j - first in
          let at : j ≡ first + n = omega arith in
          let same = subst (λ i. IsRun ms first (i + 1)) at run in
          omega (
            arith,
            may.room n same,
            (reads n same).fill,
            size_in j run,
            ap (λ i. cells_of (placed_at h (move_at ms i).from)) at,
          );
    }

  -- the heap after n copies
  abbrev IsUnderWay : ℕ → Type 0
  IsUnderWay n = IsHeap (set areas m (area_run forwarding (contents a) ms first n b)) numbers limit capacity
      (cells + cells_run (contents a) ms first n, objects + n, holds) notes
      (run_copied forwarding h ms first n)

  module _ {kept : Addr → Bool} (may : MayPutRun kept (contents a) (contents b) ms first)
      (indexes : (y : Addr) → kept y ≡ true → (forwarding y).0 ≢ 0)
      (apart : (move_at ms first).from.0 / REGION ≢ region_of (move_at ms first).to) where
    -- one copy more
    goes_on : (n : ℕ) → IsUnderWay n → IsRun ms first (first + n + 1)
        → IsLaidOut (put_run forwarding (contents a) ms first (suc n) (contents b)) → IsUnderWay (suc n)
    unfolding run_copied cells_run put_run
    goes_on n g run laid =
        let j = first + n in
        let from = (move_at ms j).from in
        let o = object_of (contents a) ms j in
        let r = region_of (move_at ms first).to in
        let x = run_copied forwarding h ms first n in
        let y = area_run forwarding (contents a) ms first n b in
        let z = area_run forwarding (contents a) ms first (suc n) b in
        let long = length-set areas m y in
        let (there, to) = run_regions ms first j run in
        let source : IsIndex (set areas m y) (from.0 / REGION) k a =
        subst (λ q. IsIndex (set areas m y) q k a) (sym there) (record {
          number = f.located.index.number;
          within = omega (arith, long, f.located.index.within);
          here = area_other t.index y _ apart ∙ f.located.index.here;
        }) in
        let target : IsIndex (set areas m y) r m y = record {
          number = t.index.number;
          within = omega (arith, long, t.index.within);
          here = area_here t.index y;
        } in
        let has : has_object x from ≡ true = has_there g from a source.here ∙ may.objects j run in
        let cells_before = ap (cells_run (contents a) ms first) (let e : j - first ≡ n = omega arith in e) in
        let fill = run_fill forwarding (contents a) ms first n (contents b) in
        let size : size_of o ≡ size_of (region_forwarded forwarding o) =
        omega (arith, length-map o.fields (stored_forwarding forwarding)) in
        let found = found_at g from source has in
        let some = λ (i : ℕ) (c : Contains o.fields i) (nz : i ≢ 0). indexes _ (may.fields j run i c nz) in
        let both = area_after_put (region_forwarded forwarding o) (located_by g target t.held).area t.held refl laid
        size in
        let moved = object_put g (region_forwarded forwarding o) (forwarded forwarding (placed_at x from))
        (size_of o) (forwarded_placed forwarding o some ∙ ap (forwarded forwarding) (sym found.placed)) size
        (located_by g target t.held) both.0 (omega (arith, may.room j run, cells_before, fill)) both.1 (λ off. off)
        (λ off. (noted g).flags.registrations off from has) in
        let whole : with_moved x from r forwarding ≡ run_copied forwarding h ms first (suc n) =
        ap (λ q. with_moved x from q forwarding) (sym to) in
        let live : (b.live + cells_run (contents a) ms first n) + size_of o
        ≡ b.live + cells_run (contents a) ms first (suc n) = omega arith in
        let number : (b.count + n) + 1 ≡ b.count + suc n = omega arith in
        let sum : (cells + cells_run (contents a) ms first n) + size_of o
        ≡ cells + cells_run (contents a) ms first (suc n) = omega arith in
        let count : (objects + n) + 1 ≡ objects + suc n = omega arith in
        subst (λ (w : List Area × ℕ × ℕ × Heap). IsHeap w.0 numbers limit capacity (w.1, w.2, holds)
        notes w.3) (λ i. (
          (set-set areas m y _
              ∙ ap (set areas m) (λ q. record z { live = live q; count = number q })) i,
          sum i,
          count i,
          whole i,
        )) moved

    under_way : (n : ℕ) → (0 < n → IsRun ms first (first + n))
        → AreLaidOut forwarding (contents a) ms first n (contents b) → IsUnderWay n
    unfolding run_copied cells_run put_run
    under_way zero run laid =
        let none = λ (n : ℕ). let e : n ≡ n + 0 = omega arith in e in
        let same : areas ≡ set areas m b =
        sym (ap (set areas m) (index_reads t.index) ∙ set-get_or areas m b) in
        subst (λ (w : List Area × ℕ × ℕ). IsHeap w.0 numbers limit capacity (w.1, w.2, holds) notes h) (λ i. (
          (same ∙ ap (set areas m) (λ q. record b { live = none b.live q; count = none b.count q })) i,
          none cells i,
          none objects i,
        )) heap
    under_way (suc n) run laid =
        let here : IsRun ms first (first + n + 1) =
        subst (IsRun ms first) (let e : first + suc n ≡ first + n + 1 = omega arith in e) (run (omega arith)) in
        goes_on n (under_way n (λ some. run_part ms first (first + n) _ here (omega arith) (omega arith))
        (λ j below. laid j (omega arith))) here (laid n (omega arith))

-- the heap after the copies of a run
module _ {areas : List Area} {numbers : List ℕ} {limit capacity cells objects holds : ℕ}
    {notes : ℕ × Bool × Bool} {h : Heap}
    (heap : IsHeap areas numbers limit capacity (cells, objects, holds) notes h) (ms : List Move)
    (first : ℕ) {kept : Addr → Bool} {forwarding : Addr → Addr}
    (may : MayRun kept forwarding h ms first) where
  -- the regions of the list that are read
  pub source_read : {old : List Area} {i : ℕ} {a : Area} → old ≡ areas → a ≡ get_or old i a
      → i ≡ (move_at ms first).from.0 / REGION - 1 → IsFound areas h (move_at ms first).from i a
  source_read {i = i} {a} same is e =
      found_read heap (move_at ms first).from (may.objects first (run_one ms first may.within)) e
      (is ∙ ap (λ xs. get_or xs i a) same)

  pub target_read : {old : List Area} {j : ℕ} {b : Area} → old ≡ areas → b ≡ get_or old j b
      → j ≡ (move_at ms first).to.0 / REGION - 1 → IsHeldAt areas h (region_of (move_at ms first).to) j b
  unfolding region_of
  target_read {j = j} {b} same is e = held_read heap may.held e (is ∙ ap (λ xs. get_or xs j b) same)

  pub run_moved : ((y : Addr) → kept y ≡ true → (forwarding y).0 ≢ 0) → {old new : List Area} {i j n size : ℕ}
      → old ≡ areas → i ≡ (move_at ms first).from.0 / REGION - 1 → j ≡ (move_at ms first).to.0 / REGION - 1
      → ArePutBetween forwarding old new i j ms first n size → IsRun ms first (first + n)
      → IsHeap new numbers limit capacity (cells + size, objects + n, holds) notes (run_copied forwarding h ms first n)
  unfolding region_of
  run_moved indexes {j = j} {n} same source target c run =
      let f = source_read same c.source_is source in
      let t = target_read same c.target_is target in
      let is = under_way heap ms first f t forwarding (may_put heap ms first f t forwarding may) indexes
      may.apart n (λ some. run) c.laid_out in
      let list = ap (λ xs. set xs j (area_run forwarding (contents c.from) ms first n c.before)) (sym same)
      ∙ sym c.list in
      subst (λ (w : List Area × ℕ). IsHeap w.0 numbers limit capacity (cells + w.1, objects + n, holds) notes
      (run_copied forwarding h ms first n)) (λ i. (list i, sym c.cells_is i)) is
