use Rattle.std.proofs.Common.{ap, arith}
use Rattle.hd_model.specs.State.{State, given_of}
use Rattle.hd_store.specs.Store.{Machine}
use Rattle.hd_host.proofs.GrownParts.{state_grown}
use Rattle.hd_host.proofs.GrownTable.{room_by}
use Rattle.hd_host.proofs.growing.make_blocks.Goals as goal

pub returns-clause-room : goal.returns-clause-room
returns-clause-room c =
    let same = ap (λ (s : State). given_of s) (state_grown c.grow.ensures.grown) in
    let given = ap (λ (m : Machine). given_of m.state) c.contents-contents.ensures.value in
    room_by c.grow.result c.grow.new.store.numbers.blocks c.grow.ensures.room
    (omega (
      arith,
      same,
      given,
      c.given-given.ensures,
      c.needed_blocks-needed.ensures.value,
      c.min.ensures,
      c.max.ensures,
      c.if-limit-needed.false,
      c.if-limit-needed-2.false,
    ))
    (omega (
      arith,
      same,
      given,
      c.given-given.ensures,
      c.needed_blocks-needed.ensures.value,
      c.if-limit-needed.false,
      c.if-limit-needed-2.false,
    ))
