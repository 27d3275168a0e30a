use Rattle.hd_tiers.proofs.Basics.{BITS, and_le_l, ap, arith, bit_and, bit_not, get_or, get_or_default_zero, inl, inr, length, remove, w64, ◌/◌, ◌<◌, ◌^◌, ◌∙◌, ◌≡◌}
use Rattle.hd_tiers.proofs.MaskMembers.{after_none, after_some, none_of, removed, room_is, some_of, written}
use Rattle.hd_tiers.proofs.masks.Masks.remove_last.Goals as goal

pub returns-clause-value : goal.returns-clause-value
returns-clause-value c =
    let masks = c.self.inside.masks.items in
    let i = c.args.i in
    let mask = c.index-mask.result.now in
    let word = bit_and mask (bit_not w64 c.bit.result) in
    let within : i / BITS < length masks = omega (arith, room_is masks c.args.self.now c.self.view_is) in
    let fits : mask < 2 ^ 64 = omega arith in
    let read : mask ≡ get_or masks (i / BITS) 0 = c.index-mask.ensures ∙ get_or_default_zero masks (i / BITS)
    mask within in
    written masks c.args.self.now c.self.view_is (i / BITS) word (λ s. remove s i)
    (removed masks i mask within read fits word (ap (λ b. bit_and mask (bit_not w64 b)) c.bit.ensures.value))

pub returns-clause-some : goal.returns-clause-some
returns-clause-some c e =
    let masks = c.self.inside.masks.items in
    let i = c.args.i in
    let mask = c.index-mask.result.now in
    let within : i / BITS < length masks = omega (arith, room_is masks c.args.self.now c.self.view_is) in
    let fits : mask < 2 ^ 64 = omega arith in
    let read : mask ≡ get_or masks (i / BITS) 0 = c.index-mask.ensures ∙ get_or_default_zero masks (i / BITS)
    mask within in
    some_of masks c.args.self.now c.self.view_is _ _ read fits (c.is_last.ensures.some e)

pub returns-clause-none : goal.returns-clause-none
returns-clause-none c e =
    let masks = c.self.inside.masks.items in
    let within : c.args.i / BITS < length masks = omega (arith, room_is masks c.args.self.now c.self.view_is) in
    after_none masks _ within _ (c.is_last.ensures.last e)

pub returns-clause-kept : goal.returns-clause-kept
returns-clause-kept c e =
    let masks = c.self.inside.masks.items in
    let i = c.args.i in
    let mask = c.index-mask.result.now in
    let word = bit_and mask (bit_not w64 c.bit.result) in
    let within : i / BITS < length masks = omega (arith, room_is masks c.args.self.now c.self.view_is) in
    let fits : mask < 2 ^ 64 = omega arith in
    let read : mask ≡ get_or masks (i / BITS) 0 = c.index-mask.ensures ∙ get_or_default_zero masks (i / BITS)
    mask within in
    elim (c.is_last.ensures.more e) [
      | inl some ↦ inl (after_some masks _ within word
          (omega (arith, fits, and_le_l mask (bit_not w64 c.bit.result))) some)
      | inr zero ↦ inr (none_of masks c.args.self.now c.self.view_is _ _ read zero)
    ]
