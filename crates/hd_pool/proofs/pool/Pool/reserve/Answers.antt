use Rattle.hd_pool.proofs.Basics.{IsPool, IsWholes, List, NumberSet, Option, ROWS, ap, arith, length, subst, sym, ◌*◌, ◌+◌, ◌≤◌}
use Rattle.hd_model.specs.declared.data.Kind.{Kind}
use Rattle.hd_pool.proofs.MovedLists.{pool_widened, roomier, seen_widened, seen_within, wholes_roomier, wholes_widened}
use Rattle.hd_pool.proofs.pool.Pool.reserve.Goals as goal

pub returns-then-blocks-len : goal.returns-then-blocks-len
returns-then-blocks-len c =
    seen_within c.self.inside.kinds.items c.self.inside.free c.args.blocks c.self.view_is
    (omega (arith, c.if-blocks-len.true, c.len.ensures, c.self.inside.kinds.ok.0))

pub widened-requires-clause-within : goal.widened-requires-clause-within
widened-requires-clause-within c = c.self.invariant.0.wide

pub widened-requires-clause-wide : goal.widened-requires-clause-wide
widened-requires-clause-wide c =
    omega (arith, c.if-blocks-len.false, c.len.ensures, c.self.inside.kinds.ok.0)

pub invariant_of-self-in_err-lengthen : goal.invariant_of-self-in_err-lengthen
invariant_of-self-in_err-lengthen c =
    let room = ROWS * (c.args.blocks + 1) in
    let ready = c.self.inside.ready in (
      subst (λ (ks : List (Option Kind)). IsPool ks c.reserve.new.self ready) (sym c.in_err-lengthen.ensures)
          (roomier room c.in_ok-reserve.ensures c.self.invariant.0),
      subst (λ (ks : List (Option Kind)). IsWholes ks c.reserve.new.self ready.stride c.self.inside.wholes)
          (sym c.in_err-lengthen.ensures)
          (wholes_roomier room c.in_ok-reserve.ensures c.self.invariant.1),
    )

pub invariant_of-self-2 : goal.invariant_of-self-2
invariant_of-self-2 c =
    let made = c.in_ok-ready.ensures in
    let up : length c.self.inside.kinds.items ≤ c.args.blocks + 1 =
    omega (arith, c.if-blocks-len.false, c.len.ensures, c.self.inside.kinds.ok.0) in
    let room = ROWS * (c.args.blocks + 1) in
    let pool = roomier room c.in_ok-reserve.ensures c.self.invariant.0 in
    let room_is = ap (λ (s : NumberSet). s.room) c.in_ok-reserve.ensures in (
      pool_widened pool (omega (arith, c.requires)) up c.in_ok-lengthen.ensures made.stride made.ready_room
          (omega (arith, room_is)) made.ready,
      wholes_widened pool (omega (arith, c.requires)) up c.in_ok-lengthen.ensures made.stride made.room
          made.wholes (wholes_roomier room c.in_ok-reserve.ensures c.self.invariant.1),
    )

pub returns : goal.returns
returns c =
    let up : length c.self.inside.kinds.items ≤ c.args.blocks + 1 =
    omega (arith, c.if-blocks-len.false, c.len.ensures, c.self.inside.kinds.ok.0) in
    seen_widened c.self.invariant.0 (omega (arith, c.requires)) up c.in_ok-lengthen.ensures c.args.blocks
    c.reserve.new.self c.self.view_is (omega arith) (ap (λ (s : NumberSet). s.members) c.in_ok-reserve.ensures)
