use Rattle.std.proofs.lemmas.Nat.{or_lt}
use Rattle.hd_tiers.proofs.Basics.{BITS, ap, arith, bit_or, both_ways, eq-eqb, eqb-true, get_or, get_or_default_zero, insert, length, refl, set, ◌/◌, ◌<◌, ◌^◌, ◌∙◌, ◌≡◌}
use Rattle.hd_tiers.proofs.MaskMembers.{all_of, full_from, inserted, none_of, positive, room_is, seen, some_of, written, written_at}
use Rattle.hd_tiers.proofs.masks.Masks.add.Goals as goal

pub returns-clause-value : goal.returns-clause-value
returns-clause-value c =
    let masks = c.self.inside.masks.items in
    let i = c.args.i in
    let mask = c.index-mask.result.now in
    let within : i / BITS < length masks = omega (arith, room_is masks c.args.self.now c.self.view_is) in
    let read : mask ≡ get_or masks (i / BITS) 0 = c.index-mask.ensures ∙ get_or_default_zero masks (i / BITS)
    mask within in
    written masks c.args.self.now c.self.view_is (i / BITS) (bit_or mask c.bit.result) (λ s. insert s i)
    (inserted masks i mask within read (bit_or mask c.bit.result) (ap (bit_or mask) c.bit.ensures.value))

pub returns-clause-first : goal.returns-clause-first
returns-clause-first c e =
    let masks = c.self.inside.masks.items in
    let i = c.args.i in
    let mask = c.index-mask.result.now in
    let within : i / BITS < length masks = omega (arith, room_is masks c.args.self.now c.self.view_is) in
    let read : mask ≡ get_or masks (i / BITS) 0 = c.index-mask.ensures ∙ get_or_default_zero masks (i / BITS)
    mask within in
    none_of masks c.args.self.now c.self.view_is _ _ read (eqb-true mask 0 e)

pub returns-clause-more : goal.returns-clause-more
returns-clause-more c e =
    let masks = c.self.inside.masks.items in
    let i = c.args.i in
    let mask = c.index-mask.result.now in
    let within : i / BITS < length masks = omega (arith, room_is masks c.args.self.now c.self.view_is) in
    let fits : mask < 2 ^ 64 = omega arith in
    let read : mask ≡ get_or masks (i / BITS) 0 = c.index-mask.ensures ∙ get_or_default_zero masks (i / BITS)
    mask within in
    some_of masks c.args.self.now c.self.view_is _ _ read fits
    (positive mask (λ zero. both_ways _ e (eq-eqb mask 0 zero)))

pub returns-clause-full : goal.returns-clause-full
returns-clause-full c =
    let masks = c.self.inside.masks.items in
    let at = c.args.i / BITS in
    let mask = c.index-mask.result.now in
    let word = bit_or mask c.bit.result in
    let within : at < length masks = omega (arith, room_is masks c.args.self.now c.self.view_is) in
    let fits : word < 2 ^ 64 = or_lt 64 mask c.bit.result (omega arith) (omega arith) in
    let left = set masks at word in (
      λ full. all_of left (seen left) refl at word (written_at masks at within word)
          (eqb-true word 18446744073709551615 full),
      λ all. eq-eqb word 18446744073709551615 (full_from left (seen left) refl at word
          (written_at masks at within word) fits all),
    )
