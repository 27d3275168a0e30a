use Rattle.hd_show.proofs.RangeNumbers.{ranges_have_the_numbers}
use Rattle.hd_show.proofs.laws.ranges_have_the_numbers.Goals as goal

pub returns : goal.returns
returns c = ranges_have_the_numbers
