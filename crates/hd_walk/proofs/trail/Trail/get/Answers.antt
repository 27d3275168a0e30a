use Rattle.std.proofs.Common.{rules, arith, ap, sym, length, ◌≡◌, ◌<◌, ◌∙◌, slice_index_or, slice_index, Some, refl}
use Rattle.std.specs.Prelude.{slice_get}
use Rattle.std.proofs.lemmas.List.{get_or_read_under}
use Rattle.hd_walk.specs.Trail.{before_of}
use Rattle.hd_walk.proofs.TrailAdds.{long_by, get_by}
use Rattle.hd_walk.proofs.trail.Trail.get.Goals as goal

pub offset_bounds-as_slice-i : goal.offset_bounds-as_slice-i
offset_bounds-as_slice-i c =
    let long = long_by c.self.inside.nodes.keys c.self.inside.marks.items c.self.invariant.marked in
    let inside : c.args.i < length c.as_slice.result.now =
    omega (arith, c.requires, long, ap length c.self.view_is, ap length c.as_slice.ensures.keys) in
    omega (arith, inside, c.as_slice.type_inv)

pub bounds-as_slice-i : goal.bounds-as_slice-i
bounds-as_slice-i c =
    let long = long_by c.self.inside.nodes.keys c.self.inside.marks.items c.self.invariant.marked in
    omega (arith, c.requires, long, ap length c.self.view_is, ap length c.as_slice.ensures.keys)

pub index-requires : goal.index-requires
index-requires c =
    let long = long_by c.self.inside.nodes.keys c.self.inside.marks.items c.self.invariant.marked in
    omega (arith, c.requires, long, ap length c.self.view_is, c.self.invariant.marked)

pub returns : goal.returns
returns c =
    let nodes = c.self.inside.nodes.keys in
    let marks = c.self.inside.marks.items in
    let long = long_by nodes marks c.self.invariant.marked in
    let at : slice_index nodes c.args.i ≡ slice_index_or c.as_slice.result.now c.args.i 0 = search rules in
    let mark =
    get_or_read_under marks c.args.i (length marks) c.index.result.now 0 c.index.ensures
    (omega (arith, c.requires, long, ap length c.self.view_is, c.self.invariant.marked)) refl in
    let before : before_of (slice_index marks c.args.i) ≡ c.before_of.result =
    ap before_of (sym mark) ∙ sym c.before_of.ensures in
    ap (λ found. slice_get found c.args.i) (sym c.self.view_is)
    ∙ get_by nodes marks c.args.i (omega (arith, c.requires, long, ap length c.self.view_is)) c.self.invariant.marked
    ∙ (λ i. Some (record { at = at i; before = before i }))
