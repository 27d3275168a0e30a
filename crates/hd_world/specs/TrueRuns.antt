-- The pinned addresses of a world: those that its journal returned, which are one map.
use Rattle.std.specs.Prelude.{◌≡◌, ℕ, List}
use Rattle.std.specs.{Coded.Coded-set, Coded.coded_ℕ, FinMap.FinMap, Ordering.nat_cmp}
use Rattle.std.specs.FinMap as map
use mathlib.Core.HLevel.{Σ_prop_path}
use Rattle.std.proofs.Math.Logic.{∥∥₁_prop, ∥∥₁_elim}
use Rattle.hd_model.specs.{declared.data.Entry.Entry, PinnedAddresses.with_pinned, Aging.AgedRun}
use Rattle.hd_model.proofs.Journals.{one_pinned}
use Rattle.hd_store.specs.{Store.Machine, PinnedAddresses.AreAddresses}
use Rattle.hd_world.specs.World.{HasRunLimits}

-- with these pinned addresses a journal leads to the state of a store and leaves its ages, and each is that
-- of its object; the numbers are within the limits of a run
pub record IsTrueRun (m : Machine) (journal : List Entry) (pinned : FinMap nat_cmp ℕ) : Type 0 where
  pub run : AgedRun m.numbers journal (with_pinned m.state pinned) m.ages
  pub addresses : AreAddresses m.names pinned
  pub limits : HasRunLimits m.numbers

-- the pinned addresses with which a journal leads to a store
abbrev pub Placed : Machine → List Entry → Type 0
Placed m journal = (pinned : FinMap nat_cmp ℕ) × ∥ IsTrueRun m journal pinned ∥₁

pub same_pinned : (m : Machine) (journal : List Entry) (p q : FinMap nat_cmp ℕ) → ∥ IsTrueRun m journal p ∥₁
    → ∥ IsTrueRun m journal q ∥₁ → p ≡ q
same_pinned m journal p q a b =
    let alike = Coded-set (map.code coded_ℕ coded_ℕ) p q in
    ∥∥₁_elim a alike
    (λ x. ∥∥₁_elim b alike (λ y. one_pinned m.numbers journal m.state m.ages p q x.run y.run))

-- there is at most one such map, since a journal leads to one state
pub Placed-prop : (m : Machine) (journal : List Entry) → IsProp (Placed m journal)
Placed-prop m journal x y = Σ_prop_path (λ p. ∥∥₁_prop) (same_pinned m journal x.0 y.0 x.1 y.1)
