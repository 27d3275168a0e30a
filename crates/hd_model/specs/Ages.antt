-- The ages of clumps, and what ages and cards must state so that a collection may skip what they rule out.
-- After CoreCLR's handle table, in which clumps have ages, and its card table; the numbers are this project's
-- own.
use Rattle.std.specs.Prelude.{◌≡◌, ℕ, ◌+◌, ◌*◌, ◌-◌, ◌<◌, ◌≤◌, ◌/◌, Bool, true, cond, min, nat_lt, nat_le, List, [], ◌∷◌, ◌++◌, length, map, filter, slice_set, slice_index, Some}
use Rattle.std.specs.List.{range_with_len}
use Rattle.hd_model.specs.declared.limits.TheConstants.{CLUMP, CLUMPS, OLDEST}
use Rattle.hd_model.specs.State.{Handle, secondary_of}
use Rattle.hd_model.specs.Scene.{Objects, Rows, IsField, generation_at}

-- a generation or an age after a collection of generation n: one up to n is raised by one, at most to 2
abbrev pub raised : ℕ → ℕ → ℕ
raised n g = cond (nat_lt n g) g (min (g + 1) OLDEST)

-- a clump is sixteen slots that share an age. The list of ages begins with block 1 and has four for each
-- block.
abbrev pub clump_of : ℕ → ℕ
clump_of slot = slot / CLUMP - CLUMPS

-- the age of a slot's clump
abbrev pub age_of : List ℕ → ℕ → ℕ
age_of ages slot = slice_index ages (clump_of slot)

-- whether a collection of generation n visits a slot: where the age of its clump is at most n
abbrev pub is_due : List ℕ → ℕ → ℕ → Bool
is_due ages n slot = nat_le (age_of ages slot) n

-- an age is at most the generation of each target and each secondary in its clump
pub record HasSoundAges {N : Type 0} (o : Objects N) (rows : Rows N) (ages : List ℕ) : Type 0 where
  pub targets :
      (slot : ℕ) (h : Handle N) (x : N) → rows slot ≡ Some h → h.target ≡ Some x
      → age_of ages slot ≤ generation_at o x
  pub secondaries :
      (slot : ℕ) (h : Handle N) (x : N) → rows slot ≡ Some h → secondary_of h.extra ≡ Some x
      → age_of ages slot ≤ generation_at o x

-- an object with a field to an object of a younger generation has its card set
abbrev pub HasSoundCards : {N : Type 0} → Objects N → (N → Bool) → Type 0
HasSoundCards {N} o carded = (x y : N) → IsField o x y → generation_at o y < generation_at o x
    → carded x ≡ true

-- the ages with that of a slot's clump lowered to g, where it was above
abbrev pub lowered : List ℕ → ℕ → ℕ → List ℕ
lowered ages slot g = slice_set ages (clump_of slot) (min (age_of ages slot) g)

-- the ages after a collection of generation n
abbrev pub grown : ℕ → List ℕ → List ℕ
grown n ages = map (raised n) ages

-- the clumps of a block, in their order
abbrev pub clumps_of : ℕ → List ℕ
clumps_of b = range_with_len (CLUMPS * b - CLUMPS) CLUMPS

-- the clumps that a collection of generation n visits in a chain of blocks, in order
abbrev pub due_clumps : List ℕ → ℕ → List ℕ → List ℕ
due_clumps ages n [] = []
due_clumps ages n (b ∷ chain) =
    filter (λ c. nat_le (slice_index ages c) n) (clumps_of b) ++ due_clumps ages n chain

-- their number
abbrev pub visits : List ℕ → ℕ → List ℕ → ℕ
visits ages n chain = length (due_clumps ages n chain)
