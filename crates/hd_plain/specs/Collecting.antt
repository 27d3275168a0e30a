-- The identity of a number.
use Rattle.std.specs.Prelude.{ℕ}
use Rattle.hd_model.specs.declared.data.Id.{Id}

abbrev pub id_of : ℕ → Id
id_of k = record { 0 = k }
