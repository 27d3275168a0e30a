-- A whole miss, described by what its steps found. How a call decides them is in `Traces`; that both say the
-- same of each `allocate` is proved.
use Rattle.std.specs.Prelude.{◌≡◌, ◌≢◌, ◌⊎◌, ℕ, zero, suc, ◌+◌, ◌<◌, ◌≤◌, bit_or, List, [], ◌∷◌, ◌++◌, length}
use mathlib.Core.Option.{some}
use lib.ListN.{get_elem?}
use Rattle.hd_model.specs.declared.limits.TheConstants.{BLOCKS}
use Rattle.hd_custody.specs.declared.words.TheConstants.{CACHE}
use Rattle.hd_custody.specs.Counts.{mask_word, quick_word}
use Rattle.hd_custody.specs.Traces.{Did, probe_word}

-- what a block gave to a miss
pub data Gave : Type 0 where
  -- its kind word was y, and not the kind's
  another : ℕ → Gave
  -- it was of the kind, and its mask gave 0
  nothing : Gave
  -- it was of the kind, and its mask gave the rows m; the kind word loaded after it was y, and not the
  -- kind's; so the rows went back, to a mask that had o
  regiven : ℕ → ℕ → ℕ → Gave

module _ (k : ℕ) where
  -- the steps on block b
  abbrev pub on_block : ℕ → Gave → List Did
  on_block b (another y) = (b, y, y) ∷ []
  on_block b nothing = (b, k + 1, k + 1) ∷ (mask_word b, 0, 0) ∷ []
  on_block b (regiven m y o) =
      (b, k + 1, k + 1) ∷ (mask_word b, m, 0) ∷ (b, y, y) ∷ (mask_word b, o, bit_or o m) ∷ []

  -- the steps on block b and those after it
  abbrev pub on_blocks : ℕ → List Gave → List Did
  on_blocks b [] = []
  on_blocks b (g ∷ gs) = on_block b g ++ on_blocks (b + 1) gs

  -- c exchanges of the cache with 0, from the n-th on, which all gave 0
  unfoldable pub on_cache : ℕ → ℕ → List Did
  on_cache zero n = []
  on_cache (suc c) n = (probe_word k n, 0, 0) ∷ on_cache c (n + 1)

  -- "not the kind's" is true of what the block gave
  abbrev pub IsGiven : Gave → Type 0
  IsGiven (another y) = y ≢ k + 1
  IsGiven nothing = Unit {0}
  IsGiven (regiven m y o) = (m ≢ 0) × (y ≢ k + 1)

-- A whole miss of the kind with number k, of a table of this number of blocks: every quick word and cell of
-- the kind gave 0; the kind word of each block was loaded, and the mask of each block that was loaded as of
-- the kind gave 0, or it gave rows and the kind word loaded once more after it was another. These are all
-- steps, in this order.
pub record WholeMiss (k blocks : ℕ) (trace : List Did) : Type 0 where
  pub gave : List Gave
  pub each_block : length gave ≡ blocks
  pub given : (n : ℕ) (g : Gave) → get_elem? gave n ≡ some g → IsGiven k g
  pub steps : trace ≡ on_cache k CACHE 0 ++ on_blocks k 1 gave

-- the step is one of them
abbrev pub HasStep : Did → List Did → Type 0
HasStep t trace = (n : ℕ) × (get_elem? trace n ≡ some t)

-- The same, each word and block alone.
pub record FoundNone (k blocks : ℕ) (trace : List Did) : Type 0 where
  -- every quick word and cell of the kind was exchanged with 0, and gave 0
  pub cache : (i : ℕ) → quick_word k ≤ i → i < quick_word k + CACHE → HasStep (i, 0, 0) trace
  -- the kind word of each block was loaded
  pub loaded : (b : ℕ) → 0 < b → b ≤ blocks → (y : ℕ) × HasStep (b, y, y) trace
  -- where it was the kind's, the mask was exchanged with 0 next, and gave 0, or the kind word loaded after it
  -- was another
  pub masks : (n b : ℕ) → 0 < b → b ≤ BLOCKS → get_elem? trace n ≡ some (b, k + 1, k + 1)
      → (m : ℕ) × (get_elem? trace (suc n) ≡ some (mask_word b, m, 0)) × ((m ≡ 0)
      ⊎ ((y : ℕ) × (y ≢ k + 1) × (get_elem? trace (suc (suc n)) ≡ some (b, y, y))))

-- a whole miss found nothing in any of them
abbrev pub MissesFoundNone : Type 0
MissesFoundNone = (k blocks : ℕ) (trace : List Did) → WholeMiss k blocks trace → FoundNone k blocks trace
