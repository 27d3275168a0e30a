-- A word of 64 bits as a set of the 64 rows of a block. This project's own format: bit i is row i.
use Rattle.std.specs.Prelude.{ℕ, ◌==◌, List, filter}
use Rattle.std.specs.Int.{bit_at}
use Rattle.std.specs.List.{range_with_len}
use Rattle.hd_mask.specs.declared.TheConstants.{BITS}

-- the indices of the set bits, from 0 to 63, in rising order
unfoldable pub set_bits : ℕ → List ℕ
set_bits mask = filter (λ i. bit_at mask i == 1) (range_with_len 0 BITS)
