use Rattle.std.proofs.Common.{arith, min, ℕ, ⊎_elim, ◌+◌, ◌-◌, ◌<◌, ◌^◌, ◌≡◌, ◌≤◌, ◌⊎◌}
use Rattle.std.specs.Prelude.{◌↔◌}
use mathlib.Core.Logic.{inl, inr}
use Rattle.std.proofs.lemmas.Result.{IfOk-weaker}
use Rattle.hd_view.specs.Inside.{meets}
use Rattle.hd_view.specs.Sets.{IsIn}
use Rattle.hd_view.proofs.AddressSets.{meets_range}
use Rattle.hd_view.proofs.accepted.add_meeting.Goals as goal

pub returns : goal.returns
returns c =
    let cells = c.args.cells in
    let size = c.args.size in
    let begin = c.saturating_sub-begin.result in
    let last = c.min.result in
    let old = c.args.ranges.now.items in
    let new = c.add_range.new.ranges.items in
    let begin_is : begin ≡ (cells.first + 1) - size = omega (arith, c.saturating_sub-begin.ensures) in
    let last_is : last ≡ min (cells.first + cells.count - 1) (2 ^ 32 - 1) = omega (arith, c.min.ensures) in
    IfOk-weaker c.add_range.result (λ _. (x : ℕ) → IsIn new x ↔ (IsIn old x ⊎ ((begin ≤ x) × (x ≤ last))))
    (λ _. (x : ℕ) → x < 2 ^ 32 → IsIn new x ↔ (IsIn old x ⊎ meets cells size x))
    (λ _ adds x small.
    let range = meets_range cells size x begin last c.requires.some c.requires.size small begin_is last_is in (
      λ i. ⊎_elim (λ before. inl before) (λ here. inr (range.0 here)) ((adds x).0 i),
      λ i. ⊎_elim (λ before. (adds x).1 (inl before)) (λ met. (adds x).1 (inr (range.1 met))) i,
    ))
    c.add_range.ensures
