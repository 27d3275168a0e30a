use Rattle.hd_final.proofs.Basics.{Basis, Contains, Grows, IsYoungField, Joiner, get_or, objects_of, addresses, subst, sym, take, ◌∙◌, ◌≡◌}
use Rattle.hd_final.proofs.QueueJoin.{addresses_more, beyond, grown_more}
use Rattle.hd_final.proofs.joiners.join.Goals as goal

abbrev no_joiner : Joiner
no_joiner = record { id = record { 0 = 0 }; at = record { 0 = 0 } }

pub loop-joiner-preserved : goal.loop-joiner-preserved
loop-joiner-preserved g c =
    let basis = g.M.Marker.basis in
    let promoted = g.M.Marker.promoted in
    let start = c.args.marker.now in
    let js = c.args.joiners.now in
    let i = c.loop-joiner.joiner-index in
    let low = c.loop-joiner-test.true in
    let at = (get_or js i no_joiner).at in
    let grown = subst
    (λ (b : Basis). Grows (IsYoungField (objects_of b) b.condemned) (λ a. a ≡ at)
    (promoted c.loop-joiner.marker) (promoted c.promote.new.self)) c.loop-joiner.invariant.1
    c.promote.ensures.grows in
    let more = grown_more (IsYoungField (objects_of (basis start)) (basis start).condemned)
    (addresses (take i js)) at (promoted start) (promoted c.loop-joiner.marker) (promoted c.promote.new.self)
    c.loop-joiner.invariant.3 grown in (
      c.promote.ensures.settled,
      c.promote.ensures.basis ∙ c.loop-joiner.invariant.1,
      c.promote.ensures.pinned ∙ c.loop-joiner.invariant.2,
      subst (λ xs. Grows (IsYoungField (objects_of (basis start)) (basis start).condemned)
          (λ a. Contains xs a) (promoted start) (promoted c.promote.new.self))
          (sym (addresses_more js i no_joiner low)) more,
      c.push_back_reserved.ensures.items
          ∙ beyond c.loop-joiner.queued.items c.args.queued.now.items js i no_joiner low
          c.loop-joiner.invariant.4,
      c.push_back_reserved.ensures.capacity ∙ c.loop-joiner.invariant.5,
    )
