-- The limits of this crate as numbers: a definition above cites the constants, which another number would
-- change with them.
use Rattle.std.specs.Prelude.{◌≡◌}
use Rattle.hd_mask.specs.declared.TheConstants.{BITS}

-- a mask has 64 bits, one for each row of a block
abbrev pub LimitsAreThese : Type 0
LimitsAreThese = BITS ≡ 64
