-- The words of the first line of bytes, and where they begin and end.
use Rattle.std.specs.Prelude.{ℕ, Bool, false, if◌then◌else◌, List, [], ◌∷◌}
use Rattle.std.specs.List.{before_first}
use Rattle.hd_model.specs.Grammar.{is_blank, is_line_end, words_of}

-- whether the first byte is a space or a tab
abbrev pub starts_blank : List ℕ → Bool
starts_blank [] = false
starts_blank (b ∷ bs) = is_blank b

-- the words of the first line
unfoldable pub words_at : List ℕ → List (List ℕ)
words_at bytes = words_of (before_first is_line_end bytes)

-- the bytes after the first line and its end
abbrev pub line_after : List ℕ → List ℕ
line_after [] = []
line_after (b ∷ bs) = if is_line_end b then bs else line_after bs
