-- What a map by number ends as, where a `&mut` to one of its values is returned; and an entry whose value is
-- lent.
use Rattle.std.specs.Prelude.{ℕ, Option, ◌≡◌, IsSome}
use Rattle.std.specs.FinMap.{FinMap}
use Rattle.std.specs.Ordering.{nat_cmp}
use Rattle.std.specs.Borrow.{Bor, LendsSo, Fml, RattleType, MutBor}
use Rattle.hd_maps.specs.contracts.numbered.Numbered.{the_row}
use Rattle.std.specs.FinMap as fin

-- once the borrow r ends, the key has the last value written through r; without one nothing is changed
abbrev pub lends_value : (V : RattleType) → MutBor (FinMap nat_cmp V.Denot) → ℕ → Option (MutBor V.Denot)
    → Fml
lends_value V s key r =
    LendsSo (the_row V) V s r (λ n w. IsSome (fin.get s.now key) → n ≡ fin.insert s.now key w)
    (λ n. n ≡ s.now)

-- a key and what is lent of it, as an entry
abbrev pub lent_entry : {X : Type 0} → ℕ × Bor X → ℕ × X
lent_entry e = (e.0, e.1.now)
