-- More blocks, whose ages are all 2, and fewer.
use Rattle.hd_ages.proofs.Basics.{All, All-append, All-replicate, All-take, CLUMPS, HOST_BLOCKS, HasNoneFrom, HasYoung, IsWord, List, NumberSet, [], age_in, ages_in, ages_of, ap, arith, both_ways, cases_eq, cases_lt, contains, false, get_or, get_or-take, inl, inr, length, length-append, length-take, refl, replicate, subst, suc, sym, take, zero, ℕ, ◌*◌, ◌++◌, ◌+◌, ◌-◌, ◌<◌, ◌∙◌, ◌∷◌, ◌≡◌, ◌≢◌, ◌≤◌}
use Rattle.std.proofs.Math.ListN.{get_or-append}
use Rattle.std.proofs.Math.Seq.{get_or-append_right}
use Rattle.std.proofs.lemmas.List.{get_or-replicate, length-replicate, take_all}
use Rattle.std.specs.FinSet.{remove}
use Rattle.std.specs.Prelude.{max, MatchResult, Result, Ok, Err}
use Rattle.hd_tiers.proofs.SetMembers.{remove_same, remove_other}
use Rattle.hd_tiers.specs.Sets.{HasNoneBetween, IsLeastFrom}
use Rattle.hd_ages.specs.Inside.{IsCutFrom}
use Rattle.hd_ages.proofs.BlockAges.{ages_of-replicate, length-ages_of}

-- what holds of the fields of a map
abbrev IsMap : List ℕ → ℕ → NumberSet → NumberSet → Type 0
IsMap words youngest zeros young =
    (length words ≤ HOST_BLOCKS) × All IsWord words × (youngest ≤ 2)
    × All (λ age. youngest ≤ age) (ages_of words) × HasYoung 0 words zeros × HasYoung 1 words young

-- ---- more blocks

ages_of-append : (ws vs : List ℕ) → ages_of (ws ++ vs) ≡ ages_of ws ++ ages_of vs
ages_of-append [] vs = refl
ages_of-append (w ∷ ws) vs =
    ap (λ xs. age_in w 0 ∷ age_in w 1 ∷ age_in w 2 ∷ age_in w 3 ∷ xs) (ages_of-append ws vs)

pub ages_longer : (words : List ℕ) {ages : List ℕ} (blocks : ℕ) → ages_of words ≡ ages
    → ages_of (words ++ replicate (blocks - length words) 255)
    ≡ ages ++ replicate (CLUMPS * blocks - length ages) 2
ages_longer words {ages} blocks seen =
    let count : CLUMPS * (blocks - length words) ≡ CLUMPS * blocks - length ages =
    omega (arith, ap length seen, length-ages_of words) in
    ages_of-append words (replicate (blocks - length words) 255)
    ∙ ap (λ xs. ages_of words ++ xs) (ages_of-replicate (blocks - length words) 255 refl)
    ∙ (λ i. seen i ++ replicate (count i) 2)

-- a set with more room
pub widened : {k : ℕ} {words : List ℕ} {s after : NumberSet} (room : ℕ)
    → after ≡ record s { room = max s.room room } → HasYoung k words s → HasYoung k words after
widened {k} {words} {s} room is has =
    subst (HasYoung k words) (sym is)
    (record { room = omega (arith, has.room); within = has.within; above = has.above })

module _ (words : List ℕ) (count : ℕ) where
  abbrev longer : List ℕ
  longer = words ++ replicate count 255

  long : length longer ≡ length words + count
  long = length-append words (replicate count 255)
      ∙ ap (λ n. length words + n) (length-replicate {A = ℕ} count 255)

  -- the word of a block that came
  word_come : (b : ℕ) → length words < b → b ≤ length longer → get_or longer (b - 1) 0 ≡ 255
  word_come b past last =
      get_or-append_right words (replicate count 255) (b - 1) 0 (omega (arith, past))
      ∙ get_or-replicate count (b - 1 - length words) 255 0 (omega (arith, past, last, long))

  young_longer : (k : ℕ) (s : NumberSet) → k < 2 → length words + count < s.room → HasYoung k words s
      → HasYoung k longer s
  young_longer k s small fits has = record {
    room = omega (arith, long, fits);
    within = λ b member. let range = has.within b member in (range.0, omega (arith, range.1, long));
    above = λ b first last none. elim (cases_lt (length words) b) [
      | inl past ↦ subst (λ v. All (λ age. k < age) (ages_in v)) (sym (word_come b past last))
          (All-replicate (λ (age : ℕ). k < age) 4 2 small)
      | inr within ↦ subst (λ v. All (λ age. k < age) (ages_in v))
          (sym (get_or-append words (replicate count 255) 0 (b - 1) (omega (arith, first, within))))
          (has.above b first within none)
    ];
  }

  map_longer : {youngest : ℕ} {zeros young : NumberSet} → length words + count ≤ HOST_BLOCKS
      → length words + count < zeros.room → length words + count < young.room
      → IsMap words youngest zeros young → IsMap longer youngest zeros young
  map_longer {youngest} {zeros} {young} few fits fits_young is = (
    omega (arith, few, long),
    All-append IsWord words (replicate count 255) is.1
        (All-replicate IsWord count 255 (record { holds = refl })),
    is.2,
    subst (All (λ age. youngest ≤ age)) (sym (ages_of-append words (replicate count 255)
        ∙ ap (λ xs. ages_of words ++ xs) (ages_of-replicate count 255 refl)))
        (All-append (λ age. youngest ≤ age) (ages_of words) (replicate (CLUMPS * count) 2) is.3
        (All-replicate (λ age. youngest ≤ age) (CLUMPS * count) 2 is.2)),
    young_longer 0 zeros (omega arith) fits is.4,
    young_longer 1 young (omega arith) fits_young is.5,
  )

-- whether or not there was memory
pub reserved : {T E : Type 0} {words new : List ℕ} {youngest blocks : ℕ} {zeros young : NumberSet}
    (r : Result T E)
    → MatchResult r (λ _. new ≡ words ++ replicate (blocks - length words) 255) (λ _. new ≡ words)
    → blocks ≤ HOST_BLOCKS → blocks < zeros.room → blocks < young.room
    → IsMap words youngest zeros young → IsMap new youngest zeros young
reserved {words = words} {youngest = y} {blocks = blocks} {zeros = zeros} {young = young} (Ok _) is few fits
    fits_young map =
    subst (λ ws. IsMap ws y zeros young) (sym is)
    (map_longer words (blocks - length words) (omega (arith, few, map.0))
    (omega (arith, fits, map.4.room)) (omega (arith, fits_young, map.5.room)) map)
reserved {youngest = youngest} {zeros = zeros} {young = young} (Err _) same few fits fits_young map =
    subst (λ ws. IsMap ws youngest zeros young) (sym same) map

-- ---- fewer blocks

pub ages_of-take : (n : ℕ) (ws : List ℕ) → ages_of (take n ws) ≡ take (CLUMPS * n) (ages_of ws)
ages_of-take zero ws = ap (λ m. take m (ages_of ws)) (let e : 0 ≡ CLUMPS * zero = omega arith in e)
ages_of-take (suc n) [] = sym (take_all (CLUMPS * suc n) [] (omega arith))
ages_of-take (suc n) (w ∷ ws) =
    ap (λ xs. age_in w 0 ∷ age_in w 1 ∷ age_in w 2 ∷ age_in w 3 ∷ xs) (ages_of-take n ws)
    ∙ ap (λ m. take m (ages_of (w ∷ ws)))
    (let e : suc (suc (suc (suc (CLUMPS * n)))) ≡ CLUMPS * suc n = omega arith in e)

-- one more block was removed
module _ {first : ℕ} {start old new : NumberSet} (block : ℕ) (cut : IsCutFrom first start old)
    (is : new ≡ record old { members = remove old.members block }) (past : first ≤ block) where
  other : (b : ℕ) → b ≢ block → contains new.members b ≡ contains old.members b
  other b apart = ap (λ (s : NumberSet). contains s.members b) is ∙ remove_other old.members block b apart

  same : (b : ℕ) → b ≡ block → contains new.members b ≡ false
  same b e = ap (λ (s : NumberSet). contains s.members b) is ∙ remove_same old.members block b e

  pub cut_on : IsCutFrom first start new
  cut_on = record {
    room = ap (λ (s : NumberSet). s.room) is ∙ cut.room;
    below = λ b lt. other b (λ e. absurd (omega (arith, lt, past, e))) ∙ cut.below b lt;
    fewer = λ b member. elim (cases_eq b block) [
      | inl e ↦ absurd (both_ways _ (same b e) member)
      | inr apart ↦ cut.fewer b (sym (other b apart) ∙ member)
    ];
  }

  pub none_on : (from : ℕ) → HasNoneBetween old.members first from → IsLeastFrom old.members from block
      → HasNoneBetween new.members first (block + 1)
  none_on from none least b low high = elim (cases_eq b block) [
    | inl e ↦ same b e
    | inr apart ↦ other b apart ∙ elim (cases_lt b from) [
      | inl before ↦ none b low before
      | inr on ↦ least.least b on (omega (arith, high, apart))
    ]
  ]

pub young_cut : {words : List ℕ} (k blocks : ℕ) (s new : NumberSet) → HasYoung k words s
    → IsCutFrom (blocks + 1) s new → HasNoneFrom new.members (blocks + 1)
    → HasYoung k (take blocks words) new
young_cut {words} k blocks s new has cut none =
    let size = length-take blocks words in
    record {
      room = omega (arith, has.room, cut.room, size);
      within = λ b member.
          let range = has.within b (cut.fewer b member) in
          elim (cases_lt b (blocks + 1)) [
            | inl below ↦ (range.0, omega (arith, range.1, below, size))
            | inr past ↦ absurd (both_ways _ (none b past) member)
          ];
      above = λ b first last gone.
          let low : b - 1 < blocks = omega (arith, first, last, size) in
          subst (λ v. All (λ age. k < age) (ages_in v)) (sym (get_or-take blocks words (b - 1) 0 low))
          (has.above b first (omega (arith, last, size))
          (sym (cut.below b (omega (arith, low))) ∙ gone));
    }

pub map_cut : {words new : List ℕ} {youngest : ℕ} (blocks : ℕ)
    (zeros young zeros_new young_new : NumberSet)
    → new ≡ take blocks words → IsMap words youngest zeros young
    → IsCutFrom (blocks + 1) zeros zeros_new → HasNoneFrom zeros_new.members (blocks + 1)
    → IsCutFrom (blocks + 1) young young_new → HasNoneFrom young_new.members (blocks + 1)
    → IsMap new youngest zeros_new young_new
map_cut {words} {new} {youngest} blocks zeros young zeros_new young_new is map cut none cut_young none_young =
    subst (λ ws. IsMap ws youngest zeros_new young_new) (sym is) (
      omega (arith, length-take blocks words, map.0),
      All-take IsWord blocks words map.1,
      map.2,
      subst (All (λ age. youngest ≤ age)) (sym (ages_of-take blocks words))
          (All-take (λ age. youngest ≤ age) (CLUMPS * blocks) (ages_of words) map.3),
      young_cut 0 blocks zeros zeros_new map.4 cut none,
      young_cut 1 blocks young young_new map.5 cut_young none_young,
    )
