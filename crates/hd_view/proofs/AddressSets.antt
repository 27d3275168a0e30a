-- The addresses that are free for an object.
use Rattle.std.proofs.Common.{List, [], arith, get_or, length, min, refl, subst, sym, take, ℕ, ⊎_elim, ◌++◌, ◌+◌, ◌-◌, ◌<◌, ◌∷◌, ◌^◌, ◌≡◌, ◌≤◌, ◌⊎◌}
use Rattle.std.specs.Prelude.{Contains, ◌↔◌}
use Rattle.std.proofs.lemmas.List.{take_more}
use Rattle.std.proofs.lemmas.List.Elements.{Contains-append_cases, Contains-append_left, Contains-append_right}
use mathlib.Core.Logic.{inl, inr}
use Rattle.hd_model.proofs.Members.{first_in, member_at, member_cases, not_in_none}
use Rattle.hd_model.specs.declared.data.Id.{Id}
use Rattle.hd_model.specs.PinnedAddresses.{IsFreeAddress}
use Rattle.hd_model.specs.State.{State, object_by_id, size_of}
use Rattle.hd_audit.specs.Before.{AreTaken}
use Rattle.hd_audit.specs.declared.entry_choice.PinnedCells.{PinnedCells}
use Rattle.hd_view.specs.Inside.{meets}
use Rattle.hd_view.specs.{Inside.Has, Sets.IsIn}
use Rattle.hd_view.specs.declared.sets.NumberSet.{NumberSet}
use Rattle.hd_view.specs.declared.sets.Range.{Range}

-- cells from an address on meet some of these
abbrev pub MeetsSome : List PinnedCells → ℕ → ℕ → Type 0
MeetsSome cells size x = (c : PinnedCells) × Contains cells c × meets c size x

pub meets_none : (size x : ℕ) → MeetsSome [] size x → ⊥
meets_none size x h = not_in_none h.0 h.1

pub meets_more : (cells : List PinnedCells) (c : PinnedCells) (size x : ℕ)
    → MeetsSome (cells ++ c ∷ []) size x ↔ (MeetsSome cells size x ⊎ meets c size x)
meets_more cells c size x = (there, back)
  where
    there : MeetsSome (cells ++ c ∷ []) size x → MeetsSome cells size x ⊎ meets c size x
    there h = ⊎_elim (λ before. inl (h.0, before, h.2))
        (λ last. ⊎_elim (λ same. inr (subst (λ (d : PinnedCells). meets d size x) (sym same) h.2))
        (λ none. absurd (not_in_none h.0 none)) (member_cases c [] h.0 last))
        (Contains-append_cases cells (c ∷ []) h.0 h.1)

    back : MeetsSome cells size x ⊎ meets c size x → MeetsSome (cells ++ c ∷ []) size x
    back (inl h) = (h.0, Contains-append_left cells (c ∷ []) h.0 h.1, h.2)
    back (inr m) = (c, Contains-append_right cells (c ∷ []) c (first_in c []), m)

-- ranges from which cells meet some
module _ (s : State) (id : Id) (size : ℕ) (set : NumberSet) (cells : List PinnedCells)
    (size_is : size ≡ size_of (object_by_id s id)) (taken : AreTaken s cells)
    (within : (x : ℕ) → IsIn set.within.items x ↔ (x ≤ 2 ^ 32 - 1))
    (but : (x : ℕ) → x < 2 ^ 32 → IsIn set.but.items x ↔ MeetsSome cells size x) where
  small : (x : ℕ) → IsIn set.within.items x → x < 2 ^ 32
  small x i = let low = (within x).0 i in omega (arith, low)

  pub addresses_has : Has set (λ x. IsFreeAddress s id x)
  addresses_has = λ x. (
    λ m. record {
      small = small x m.within;
      apart = λ y other is meet. m.but ((but x (small x m.within)).1 (
        record { first = other; count = size_of (object_by_id s y) },
        taken.all y other is,
        record {
          left = meet.left;
          right = let right = meet.right in omega (arith, right, size_is);
        },
      ));
    },
    λ f. record {
      within = (within x).1 (let low = f.small in omega (arith, low));
      but = λ i.
          let found = (but x f.small).0 i in
          let owner = taken.only found.0 found.1 in
          f.apart owner.0 found.0.first owner.1 (record {
            left = let left = found.2.left in omega (arith, left, owner.2);
            right = let right = found.2.right in omega (arith, right, size_is);
          });
    },
  )

-- ---- range by range

-- the addresses from which cells meet some others
pub meets_range : (c : PinnedCells) (size x begin last : ℕ) → 0 < c.count → 0 < size → x < 2 ^ 32
    → begin ≡ (c.first + 1) - size → last ≡ min (c.first + c.count - 1) (2 ^ 32 - 1)
    → ((begin ≤ x) × (x ≤ last)) ↔ meets c size x
meets_range c size x begin last some sized small begin_is last_is = (
  λ h. record {
    left = omega (arith, h.1, some, last_is);
    right = omega (arith, h.0, begin_is);
  },
  λ m.
      let left = m.left in
      let right = m.right in
      (omega (arith, right, begin_is), omega (arith, left, last_is, small, some)),
)

pub all_within : (old new : List Range) → old ≡ []
    → ((x : ℕ) → IsIn new x ↔ (IsIn old x ⊎ ((0 ≤ x) × (x ≤ 2 ^ 32 - 1)))) → (x : ℕ)
    → IsIn new x ↔ (x ≤ 2 ^ 32 - 1)
all_within old new none adds x = (
  λ i. ⊎_elim (λ before. absurd (subst (λ rs. IsIn rs x) none before)) (λ here. here.1) ((adds x).0 i),
  λ low. (adds x).1 (inr (omega arith, low)),
)

pub meets_start : (size : ℕ) (ranges : List Range) → ranges ≡ [] → (x : ℕ)
    → IsIn ranges x ↔ MeetsSome [] size x
meets_start size ranges none x =
    (λ i. absurd (subst (λ rs. IsIn rs x) none i), λ m. absurd (meets_none size x m))

pub meets_next : (cells : List PinnedCells) (i size : ℕ) (d : PinnedCells) (old new : List Range)
    → i < length cells → ((x : ℕ) → x < 2 ^ 32 → IsIn old x ↔ MeetsSome (take i cells) size x)
    → ((x : ℕ) → x < 2 ^ 32 → IsIn new x ↔ (IsIn old x ⊎ meets (get_or cells i d) size x)) → (x : ℕ)
    → x < 2 ^ 32 → IsIn new x ↔ MeetsSome (take (i + 1) cells) size x
meets_next cells i size d old new low so_far adds x small =
    subst (λ cs. IsIn new x ↔ MeetsSome cs size x) (sym (take_more cells i d low)) (
      λ h. (more.1) (⊎_elim (λ before. inl ((so_far x small).0 before)) (λ here. inr here) ((adds x small).0 h)),
      λ m. (adds x small).1
          (⊎_elim (λ before. inl ((so_far x small).1 before)) (λ here. inr here) (more.0 m)),
    )
  where
    more : MeetsSome (take i cells ++ get_or cells i d ∷ []) size x
        ↔ (MeetsSome (take i cells) size x ⊎ meets (get_or cells i d) size x)
    more = meets_more (take i cells) (get_or cells i d) size x

-- each of the cells has some
pub taken_some : (s : State) (cells : List PinnedCells) → AreTaken s cells → (i : ℕ) (d : PinnedCells)
    → i < length cells → 0 < (get_or cells i d).count
taken_some s cells taken i d low =
    let its = taken.only (get_or cells i d) (member_at cells i d (get_or cells i d) low refl) in
    let count = its.2 in
    omega (arith, count)
