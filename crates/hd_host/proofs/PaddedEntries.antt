-- The entries that a host has so far, among those of all slots that it may have.
use Rattle.std.proofs.Common.{List, Some, ap, arith, length, replicate, slice_get, subst, sym, zero, suc, ⊎_elim, ℕ, ◌%◌, ◌*◌, ◌+◌, ◌++◌, ◌-◌, ◌<◌, ◌^◌, ◌∙◌, ◌∷◌, ◌≡◌, ◌≢◌, ◌≤◌}
use Rattle.std.proofs.lemmas.Bool.{cases_lt}
use Rattle.std.proofs.lemmas.List.{append_assoc, get_or-append-add, get_or_append_left, length-append, length-replicate, length-set, set-append_left}
use Rattle.std.proofs.lemmas.Option.{none-some, slice_get-get_or, slice_get_past}
use Rattle.std.specs.Prelude.{IfSome, slice_index, slice_set}
use Rattle.hd_model.specs.declared.limits.TheConstants.{HOST_BLOCKS, ROWS}
use Rattle.hd_host.specs.declared.stamps.TheConstants.{FREE}
use Rattle.hd_host.specs.Handles.{padded}
use Rattle.hd_host.proofs.LiveEntries.{none_live}

-- more of one and then more of it
pub replicate_both : (a b x : ℕ) → replicate a x ++ replicate b x ≡ replicate (a + b) x
replicate_both zero b x = let same : b ≡ 0 + b = omega arith in ap (λ n. replicate n x) same
replicate_both (suc a) b x =
    let same : suc (a + b) ≡ suc a + b = omega arith in
    ap (λ xs. x ∷ xs) (replicate_both a b x) ∙ ap (λ n. replicate n x) same

-- what is filled up to more and then to most is filled up to most
pub filled_up : (xs : List ℕ) (more most x : ℕ) → more ≤ most → length xs ≤ most
    → (xs ++ replicate (more - length xs) x)
    ++ replicate (most - length (xs ++ replicate (more - length xs) x)) x ≡ xs ++ replicate (most - length xs) x
filled_up xs more most x low within =
    let came = replicate (more - length xs) x in
    let long : length (xs ++ came) ≡ length xs + (more - length xs) =
    length-append xs came ∙ ap (λ n. length xs + n) (length-replicate (more - length xs) x) in
    let count : (more - length xs) + (most - length (xs ++ came)) ≡ most - length xs =
    omega (arith, long, low, within) in
    append_assoc xs came (replicate (most - length (xs ++ came)) x)
    ∙ ap (λ ys. xs ++ ys) (replicate_both (more - length xs) (most - length (xs ++ came)) x
    ∙ ap (λ n. replicate n x) count)

pub all_filled : (few most x : ℕ) → few ≤ most
    → replicate few x ++ replicate (most - length (replicate few x)) x ≡ replicate most x
all_filled few most x low =
    ap (λ n. replicate few x ++ replicate (most - n) x) (length-replicate few x) ∙ replicate_both few (most - few) x
    ∙ ap (λ n. replicate n x) (omega (arith, low))

module _ (limit : ℕ) (entries : List ℕ) where
  abbrev count : ℕ
  count = ROWS * (limit + 1) - length entries

  pub long_padded : length entries ≤ ROWS * (limit + 1) → length (padded limit entries) ≡ ROWS * (limit + 1)
  long_padded within = omega (
    arith,
    within,
    length-append entries (replicate count FREE),
    length-replicate count FREE,
  )

  -- an entry in memory
  pub index_padded : (i : ℕ) → i < length entries → slice_index (padded limit entries) i ≡ slice_index entries i
  index_padded i low = get_or_append_left entries (replicate count FREE) 0 i low

  get_padded : (i : ℕ) → i < length entries → slice_get (padded limit entries) i ≡ slice_get entries i
  get_padded i low =
      slice_get-get_or (padded limit entries) i 0 (omega (
        arith,
        low,
        length-append entries (replicate count FREE),
      ))
      ∙ ap Some (index_padded i low) ∙ sym (slice_get-get_or entries i 0 low)

  -- one is written
  pub set_padded : (i y : ℕ) → i < length entries
      → padded limit (slice_set entries i y) ≡ slice_set (padded limit entries) i y
  set_padded i y low =
      ap (λ n. slice_set entries i y ++ replicate (ROWS * (limit + 1) - n) FREE) (length-set entries i y)
      ∙ sym (set-append_left entries (replicate count FREE) i y low)

  pub written_padded : {others : List ℕ} (f : ℕ → ℕ) (i : ℕ) → i < length entries
      → others ≡ slice_set entries i (f (slice_index entries i))
      → padded limit others ≡ slice_set (padded limit entries) i (f (slice_index (padded limit entries) i))
  written_padded f i low is =
      ap (padded limit) is ∙ set_padded i (f (slice_index entries i)) low
      ∙ ap (λ x. slice_set (padded limit entries) i (f x)) (sym (index_padded i low))

  -- a number that is the entry of its slot is in memory
  pub own_padded : (i x : ℕ) → slice_get entries i ≡ Some x → slice_get (padded limit entries) i ≡ Some x
  own_padded i x is = ⊎_elim (λ low. get_padded i low ∙ is)
      (λ past. absurd (none-some x (sym (slice_get_past entries i past) ∙ is))) (cases_lt i (length entries))

  -- and one that is not in memory is no number with its slot in the low bits
  pub other_padded : (x : ℕ) → limit ≤ HOST_BLOCKS → length entries ≤ ROWS * (limit + 1)
      → IfSome (slice_get entries (x % 2 ^ 24)) (λ entry. entry ≢ x)
      → IfSome (slice_get (padded limit entries) (x % 2 ^ 24)) (λ entry. entry ≢ x)
  other_padded x most within apart = ⊎_elim
      (λ low. subst (λ o. IfSome o (λ entry. entry ≢ x)) (sym (get_padded (x % 2 ^ 24) low)) apart)
      (λ past. ⊎_elim
      (λ (inside : x % 2 ^ 24 < ROWS * (limit + 1)).
      subst (λ o. IfSome o (λ entry. entry ≢ x))
      (sym (slice_get-get_or (padded limit entries) (x % 2 ^ 24) 0 (omega (arith, inside, long_padded within))
      ∙ ap Some (beyond (x % 2 ^ 24) past inside)))
      (λ same. omega (arith, same, inside, most)))
      (λ (outside : ROWS * (limit + 1) ≤ x % 2 ^ 24).
      subst (λ o. IfSome o (λ entry. entry ≢ x))
      (sym (slice_get_past (padded limit entries) (x % 2 ^ 24) (omega (arith, outside, long_padded within)))) tt)
      (cases_lt (x % 2 ^ 24) (ROWS * (limit + 1))))
      (cases_lt (x % 2 ^ 24) (length entries))
    where
      beyond : (i : ℕ) → length entries ≤ i → i < ROWS * (limit + 1)
          → slice_index (padded limit entries) i ≡ FREE
      beyond i past inside =
          let at : i ≡ length entries + (i - length entries) = omega (arith, past) in
          ap (slice_index (padded limit entries)) at
          ∙ get_or-append-add entries (replicate count FREE) (i - length entries) 0
          ∙ none_live count (i - length entries) (omega (arith, past, inside))
