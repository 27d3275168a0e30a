use Rattle.hd_heap.proofs.Basics.{Contents, Decides, HasRoom, Region, ap, arith, both_ways, false, le-leb, leb-true, refl, sym, ◌∙◌}
use Rattle.hd_heap.proofs.RegionReads.{opened, index_read, held_index, held_read, located_by}
use Rattle.hd_heap.proofs.heap.Heap.has_room.Goals.{then-region-eq0-via-then-region-eq0, then-region-eq0-via-else-region-eq0+then-region-len}
use Rattle.hd_heap.proofs.heap.Heap.has_room.Goals as goal

lacks : {P : Type 0} → (P → ⊥) → Decides false P
lacks none = (λ e. absurd (cc e), λ p. absurd (none p))

pub returns-then-region-eq0 : goal.returns-then-region-eq0
returns-then-region-eq0 c = lacks (λ (room : HasRoom c.args.self.now c.args.region c.args.size).
    let index = held_index (opened c.self.inside c.self.view_is c.self.invariant) room.held refl in
    elim c.then-region-eq0.branch [
      | then-region-eq0-via-then-region-eq0 w ↦ omega (arith, index.0, w.if-region-eq0.true)
      | then-region-eq0-via-else-region-eq0+then-region-len w ↦
          omega (arith, index.0, index.1, w.if-region-len.true, w.len.ensures)
    ])

pub returns-then-not-area : goal.returns-then-not-area
returns-then-not-area c = lacks (λ (room : HasRoom c.args.self.now c.args.region c.args.size).
    both_ways _ c.if-not-area.true (held_read (opened c.self.inside c.self.view_is c.self.invariant) room.held
    c.index_of.ensures c.index-area.ensures).held)

pub returns-then-area-ne0 : goal.returns-then-area-ne0
returns-then-area-ne0 c = lacks (λ (room : HasRoom c.args.self.now c.args.region c.args.size).
    let at = held_read (opened c.self.inside c.self.view_is c.self.invariant) room.held c.index_of.ensures
    c.index-area.ensures in
    c.if-area-ne0.true (sym (ap (λ (x : Region). x.generation) at.region) ∙ room.young))

pub returns : goal.returns
returns c =
    let at = located_by (opened c.self.inside c.self.view_is c.self.invariant)
    (index_read c.self.inside.areas.items c.args.region c.index_of.result c.index-area.result.now
    (omega (arith, c.index_of.ensures, c.if-region-eq0.false))
    (omega (arith, c.index_of.ensures, c.if-region-eq0.false, c.if-region-len.false, c.len.ensures))
    c.index-area.ensures) c.if-not-area.false in
    let fill = ap (λ (x : Region). x.fill) at.region in
    let is = c.fill.ensures.value ∙ ap (λ (x : Contents). x.fill) c.deref.ensures in (
      λ fits. record {
        held = at.there;
        young = ap (λ (x : Region). x.generation) at.region ∙ c.if-area-ne0.false;
        room = omega (arith, fill, is, leb-true _ _ fits);
      },
      λ (room : HasRoom c.args.self.now c.args.region c.args.size).
          le-leb _ _ (omega (arith, fill, is, room.room)),
    )
