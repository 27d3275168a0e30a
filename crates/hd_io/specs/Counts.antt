-- Counts in a u64, which stay at the greatest one. The numbers are this project's own.
use Rattle.std.specs.Prelude.{◌≡◌, ℕ, ◌+◌, ◌-◌, ◌^◌, ◌<◌, ◌≤◌, ◌⊎◌, min}

-- the greatest u64, at which a count stays
abbrev pub last_count : ℕ
last_count = 2 ^ 64 - 1

-- the count rose, or stays at its end
abbrev pub Rose : ℕ → ℕ → Type 0
Rose old new = (old < new) ⊎ ((new ≡ old) × (last_count ≤ old))

-- the count rose by n, or is at its end
abbrev pub RoseBy : ℕ → ℕ → ℕ → Type 0
RoseBy old new n = (new ≡ old + n) ⊎ (last_count ≤ new)

-- the count n higher, and at most its end
abbrev pub count_up : ℕ → ℕ → ℕ
count_up count n = min (count + n) last_count
