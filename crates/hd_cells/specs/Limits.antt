-- The limits and the layout of a region as numbers: the definitions cite the constants, which another number
-- would change with them.
use Rattle.std.specs.Prelude.{◌≡◌}
use Rattle.hd_cells.specs.declared.cells.TheConstants.{CELLS, FIELDS, HEADER, PARTS, NONE, SHAPE, VALUE, REGISTERED}

pub record LimitsAreThese : Type 0 where
  -- a region has 256 cells, an object at most 61 fields, and 3 cells beside them
  pub cells : CELLS ≡ 256
  pub fields : FIELDS ≡ 61
  pub header : HEADER ≡ 3
  -- the second cell of an object has the number of its fields, and 256 more where it is registered; the third
  -- has its value
  pub shape : SHAPE ≡ 1
  pub value : VALUE ≡ 2
  pub registered : REGISTERED ≡ 256
  -- at most one object begins in each of 86 parts, and 255 says that none does
  pub parts : PARTS ≡ 86
  pub none : NONE ≡ 255
