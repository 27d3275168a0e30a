-- The blocks of a kind all of whose slots are free.
use Rattle.std.proofs.Common.{[], ap, arith, is_some, subst, ℕ, ⊎_elim, ◌+◌, ◌<◌, ◌≡◌, ◌≤◌}
use Rattle.std.specs.Prelude.{IsSome}
use mathlib.Core.Logic.{inr}
use Rattle.hd_model.specs.declared.data.Kind.{Kind}
use Rattle.hd_model.specs.State.{IsAllFree, State, block_of, first_slot, use_of}
use Rattle.hd_view.specs.Inside.{Adds, Between, Has}
use Rattle.hd_view.specs.declared.sets.NumberSet.{NumberSet}
use Rattle.hd_view.proofs.SlotSets.{none_in}

pub whole_below : (s : State) (kind : Kind) (blocks : ℕ)
    → ((block : ℕ) → IsSome (use_of s block) → block ≤ blocks) → (x : ℕ) → IsAllFree s kind x → x < blocks + 1
whole_below s kind blocks used x all =
    let own : block_of (first_slot x) ≡ x = omega arith in
    let free = all (first_slot x) own in
    let some : IsSome (use_of s x) = subst (λ b. IsSome (use_of s b)) own (ap is_some free.of_kind) in
    let high = used x some in
    omega (arith, high)

-- those that are added to no number
pub blocks_all : (s : State) (kind : Kind) (start set : NumberSet) (blocks : ℕ) → start.within.items ≡ []
    → set.but.items ≡ [] → Adds start.within.items set.within.items (Between 0 (blocks + 1) (IsAllFree s kind))
    → ((block : ℕ) → IsSome (use_of s block) → block ≤ blocks) → Has set (IsAllFree s kind)
blocks_all s kind start set blocks none but adds used = λ x. (
  λ m. ⊎_elim (λ o. absurd (none_in start.within.items x none o)) (λ h. h.2) ((adds x).0 m.within),
  λ all. record {
    within = (adds x).1 (inr (omega arith, whole_below s kind blocks used x all, all));
    but = λ i. none_in set.but.items x but i;
  },
)
