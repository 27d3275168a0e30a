-- What was judged so far.
use Rattle.std.specs.Prelude.{ℕ, ◌==◌, List, count_by}
use Rattle.hd_model.specs.declared.data.Entry.{Entry}

-- the number of a caller's entries
abbrev pub entries_of : ℕ → List Entry → ℕ
entries_of caller journal = count_by (λ (o : Entry). o.caller == caller) journal
