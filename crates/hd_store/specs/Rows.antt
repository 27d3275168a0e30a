-- One list of roots, read as the registers of each caller and then the statics.
use Rattle.std.specs.Prelude.{ℕ, zero, suc, List, [], ◌∷◌, take, drop}
use Rattle.hd_model.specs.declared.limits.TheConstants.{REGISTERS}

-- the registers of the first callers, REGISTERS for each
unfoldable pub rows_of : {A : Type 0} → ℕ → List A → List (List A)
rows_of zero names = []
rows_of (suc callers) names = take REGISTERS names ∷ rows_of callers (drop REGISTERS names)

-- what follows them
unfoldable pub rest_of : {A : Type 0} → ℕ → List A → List A
rest_of zero names = names
rest_of (suc callers) names = rest_of callers (drop REGISTERS names)
