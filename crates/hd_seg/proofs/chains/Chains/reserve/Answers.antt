use Rattle.std.proofs.lemmas.Result.{MatchResult-from_err}
use Rattle.hd_seg.proofs.Basics.{KINDS, ap, arith, get_or, length, refl, ◌+◌, ◌-◌, ◌∙◌}
use Rattle.hd_seg.proofs.ChainRings.{more_rings, more_view, same_view}
use Rattle.hd_seg.proofs.MoreBlocks.{long_enough, longer_same}
use Rattle.hd_seg.proofs.chains.Chains.reserve.Goals as goal

pub invariant_of-self-in_err-lengthen-2 : goal.invariant_of-self-in_err-lengthen-2
invariant_of-self-in_err-lengthen-2 c =
    let long = long_enough c.self.inside.next.items (c.args.room + KINDS + 1) 0 c.in_ok-lengthen.ensures in
    more_rings c.self.invariant c.self.view_is c.lengthen.new.items.items
    c.lengthen-2.new.items.items (omega arith) c.self.invariant.few
    (omega (arith, long, c.self.invariant.next_size))
    (omega (arith, ap length c.in_err-lengthen-2.ensures, c.self.invariant.previous_size))
    (λ n. ap (λ xs. get_or xs n 0) c.in_ok-lengthen.ensures
    ∙ longer_same c.self.inside.next.items (c.args.room + KINDS + 1 - length c.self.inside.next.items) n 0)
    (λ n. ap (λ xs. get_or xs n 0) c.in_err-lengthen-2.ensures)

pub returns-in_err-lengthen-2 : goal.returns-in_err-lengthen-2
returns-in_err-lengthen-2 c =
    let long = long_enough c.self.inside.next.items (c.args.room + KINDS + 1) 0 c.in_ok-lengthen.ensures in
    MatchResult-from_err c.from_residual-in_err-lengthen-2.result _ _
    c.from_residual-in_err-lengthen-2.ensures.0 (λ _.
    same_view c.self.invariant c.self.view_is c.lengthen.new.items.items
    c.lengthen-2.new.items.items (omega arith) c.self.invariant.few
    (omega (arith, long, c.self.invariant.next_size))
    (omega (arith, ap length c.in_err-lengthen-2.ensures, c.self.invariant.previous_size))
    (λ n. ap (λ xs. get_or xs n 0) c.in_ok-lengthen.ensures
    ∙ longer_same c.self.inside.next.items (c.args.room + KINDS + 1 - length c.self.inside.next.items) n 0)
    (λ n. ap (λ xs. get_or xs n 0) c.in_err-lengthen-2.ensures) refl)

pub invariant_of-self-2 : goal.invariant_of-self-2
invariant_of-self-2 c =
    let next_long =
    long_enough c.self.inside.next.items (c.args.room + KINDS + 1) 0 c.in_ok-lengthen.ensures in
    let back_long =
    long_enough c.self.inside.previous.items (c.args.room + KINDS + 1) 0 c.in_ok-lengthen-2.ensures in
    more_rings c.self.invariant c.self.view_is c.lengthen.new.items.items
    c.lengthen-2.new.items.items (omega (arith, c.if-room-self.false)) c.requires
    (omega (arith, next_long)) (omega (arith, back_long))
    (λ n. ap (λ xs. get_or xs n 0) c.in_ok-lengthen.ensures
    ∙ longer_same c.self.inside.next.items (c.args.room + KINDS + 1 - length c.self.inside.next.items) n 0)
    (λ n. ap (λ xs. get_or xs n 0) c.in_ok-lengthen-2.ensures
    ∙ longer_same c.self.inside.previous.items (c.args.room + KINDS + 1 - length c.self.inside.previous.items)
    n 0)

pub returns : goal.returns
returns c =
    let next_long =
    long_enough c.self.inside.next.items (c.args.room + KINDS + 1) 0 c.in_ok-lengthen.ensures in
    let back_long =
    long_enough c.self.inside.previous.items (c.args.room + KINDS + 1) 0 c.in_ok-lengthen-2.ensures in
    more_view c.self.invariant c.self.view_is c.lengthen.new.items.items
    c.lengthen-2.new.items.items (omega (arith, c.if-room-self.false)) c.requires
    (omega (arith, next_long)) (omega (arith, back_long))
    (λ n. ap (λ xs. get_or xs n 0) c.in_ok-lengthen.ensures
    ∙ longer_same c.self.inside.next.items (c.args.room + KINDS + 1 - length c.self.inside.next.items) n 0)
    (λ n. ap (λ xs. get_or xs n 0) c.in_ok-lengthen-2.ensures
    ∙ longer_same c.self.inside.previous.items (c.args.room + KINDS + 1 - length c.self.inside.previous.items)
    n 0)
