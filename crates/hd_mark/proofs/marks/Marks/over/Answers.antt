use Rattle.hd_mark.proofs.Basics.{Addr, Bool, HasNoneYet, IsSettledMarks, IsTraced, ap, arith, contains, length, not, refl, set_of, subst, sym}
use Rattle.std.proofs.lemmas.List.Sums.{count_by-le-length, length-filter}
use Rattle.hd_mark.proofs.MarksInvariant.{first_seen}
use Rattle.hd_mark.proofs.MarkDrain.{first_traced, first_none, settled_empty}
use Rattle.hd_mark.proofs.marks.Marks.over.Goals as goal

pub invariant_of-result : goal.invariant_of-result
invariant_of-result c =
    let all = c.requires.extent.objects in
    let fresh : Addr → Bool = λ a. not (contains (set_of c.in_ok-indexes.indexes.indexes.items
    c.in_ok-marks.marks.words.items) a.0) in
    record {
      indexes = c.in_ok-indexes.ensures;
      marks_long = c.in_ok-marks.ensures.long;
      pins_long = c.in_ok-pins.ensures.long;
      number = c.args.extent.objects;
      condemned = record {
        members = all.members;
        apart = all.apart;
        each = all.each;
        all = all.all;
        number = all.number;
      };
      room_left =
          let none = ap length c.in-Ok.ensures.items in
          omega (
            arith,
            length-filter fresh all.members,
            count_by-le-length fresh all.members,
            none,
            all.number,
            c.in-Ok.ensures.capacity,
          );
      within = omega arith;
      traced = subst IsTraced
          (sym (first_seen c.args.heap.now c.args.n _ _ _ c.in_ok-marks.ensures.empty
          c.in_ok-pins.ensures.empty c.in-Ok.ensures.items))
          (first_traced c.args.heap.now c.args.n c.requires.fields);
    }

pub returns-clause-marks : goal.returns-clause-marks
returns-clause-marks c =
    first_seen c.args.heap.now c.args.n _ _ _ c.in_ok-marks.ensures.empty
    c.in_ok-pins.ensures.empty c.in-Ok.ensures.items

pub returns-clause-settled : goal.returns-clause-settled
returns-clause-settled c =
    subst IsSettledMarks
    (sym (first_seen c.args.heap.now c.args.n _ _ _ c.in_ok-marks.ensures.empty
    c.in_ok-pins.ensures.empty c.in-Ok.ensures.items))
    (settled_empty (first_traced c.args.heap.now c.args.n c.requires.fields) refl)

pub returns-clause-none : goal.returns-clause-none
returns-clause-none c =
    subst HasNoneYet
    (sym (first_seen c.args.heap.now c.args.n _ _ _ c.in_ok-marks.ensures.empty
    c.in_ok-pins.ensures.empty c.in-Ok.ensures.items))
    (first_none c.args.heap.now c.args.n)
