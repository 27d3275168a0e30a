use Rattle.hd_tiers.proofs.Basics.{BITS, IsLeastOf, and_le_l, ap, arith, bit_and, bit_not, both_ways, eq-eqb, eqb-true, get_or, get_or_default_zero, length, refl, remove, subst, w64, ◌<◌, ◌^◌, ◌∙◌, ◌≡◌}
use Rattle.hd_tiers.proofs.MaskMembers.{after_none, after_some, all_of, full_from, least_of, none_of, positive, room_is, taken_at}
use Rattle.hd_tiers.proofs.Searches.{at_none}
use Rattle.hd_tiers.proofs.masks.Masks.take_least.Goals as goal

pub returns-clause-least : goal.returns-clause-least
returns-clause-least c =
    let masks = c.self.inside.masks.items in
    let block = c.args.block in
    let mask = c.index-mask.result.now in
    let within : block < length masks = omega (arith, room_is masks c.args.self.now c.self.view_is) in
    let read : mask ≡ get_or masks block 0 = c.index-mask.ensures ∙ get_or_default_zero masks block mask within
    in
    subst (IsLeastOf c.args.self.now.members block) (omega arith)
    (least_of masks c.args.self.now c.self.view_is _ _ read c.in_ok-row.ensures.within c.in_ok-row.ensures.set
    c.in_ok-row.ensures.least)

pub returns-clause-taken : goal.returns-clause-taken
returns-clause-taken c =
    let now = c.args.self.now in
    let masks = c.self.inside.masks.items in
    let block = c.args.block in
    let mask = c.index-mask.result.now in
    let low : c.in_ok-row.row < BITS = c.in_ok-row.ensures.within in
    let word = bit_and mask (bit_not w64 c.bit.result) in
    let within : block < length masks = omega (arith, room_is masks c.args.self.now c.self.view_is) in
    let fits : mask < 2 ^ 64 = omega arith in
    let read : mask ≡ get_or masks block 0 = c.index-mask.ensures ∙ get_or_default_zero masks block mask within
    in
    taken_at masks now c.self.view_is _ _ _ within read fits low word
    (ap (λ b. bit_and mask (bit_not w64 b)) c.bit.ensures.value)
    ∙ ap (λ n. record now { members = remove now.members n }) (omega arith)

pub returns-clause-last : goal.returns-clause-last
returns-clause-last c e =
    let masks = c.self.inside.masks.items in
    let within : c.args.block < length masks = omega (arith, room_is masks c.args.self.now c.self.view_is) in
    after_none masks _ within _ (eqb-true _ 0 e)

pub returns-clause-left : goal.returns-clause-left
returns-clause-left c e =
    let masks = c.self.inside.masks.items in
    let mask = c.index-mask.result.now in
    let word = bit_and mask (bit_not w64 c.bit.result) in
    let within : c.args.block < length masks = omega (arith, room_is masks c.args.self.now c.self.view_is) in
    let fits : mask < 2 ^ 64 = omega arith in
    after_some masks _ within word (omega (arith, fits, and_le_l mask (bit_not w64 c.bit.result)))
    (positive word (λ zero. both_ways _ e (eq-eqb word 0 zero)))

pub returns-clause-full : goal.returns-clause-full
returns-clause-full c =
    let masks = c.self.inside.masks.items in
    let block = c.args.block in
    let mask = c.index-mask.result.now in
    let within : block < length masks = omega (arith, room_is masks c.args.self.now c.self.view_is) in
    let fits : mask < 2 ^ 64 = omega arith in
    let read : mask ≡ get_or masks block 0 = c.index-mask.ensures ∙ get_or_default_zero masks block mask within
    in (
      λ full. all_of masks c.args.self.now c.self.view_is block mask read
          (eqb-true mask 18446744073709551615 full),
      λ all. eq-eqb mask 18446744073709551615 (full_from masks c.args.self.now c.self.view_is block mask
          read fits all),
    )

pub returns-in_err-row-clause-none : goal.returns-in_err-row-clause-none
returns-in_err-row-clause-none c =
    let masks = c.self.inside.masks.items in
    let block = c.args.block in
    let mask = c.index-mask.result.now in
    let within : block < length masks = omega (arith, room_is masks c.args.self.now c.self.view_is) in
    let read : mask ≡ get_or masks block 0 = c.index-mask.ensures ∙ get_or_default_zero masks block mask within
    in
    at_none c.from_residual.ensures
    (none_of masks c.args.self.now c.self.view_is _ _ read (c.in_err-row.ensures.none.0 refl))
