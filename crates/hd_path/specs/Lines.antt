-- The lines that `path` writes of an object.
use Rattle.std.specs.Prelude.{ℕ, List, [], ◌∷◌, ◌++◌, codes, decimal}
use Rattle.hd_model.specs.declared.data.Id.{Id}
use Rattle.hd_model.specs.CommandText.{kind_name}
use Rattle.hd_model.specs.Text.{identity_text, newline}
use Rattle.hd_path.specs.declared.names.Anchor.{Anchor}
use Rattle.hd_path.specs.declared.names.Anchor.TheVariants as anchor
use Rattle.hd_path.specs.declared.names.Edge.{Edge}
use Rattle.hd_path.specs.declared.names.Edge.TheVariants as edge

-- what makes an object an anchor, as a word
abbrev pub anchor_word : Anchor → List ℕ
anchor_word (anchor.Static k) = codes "static " ++ decimal k
anchor_word (anchor.Handle slot kind) = codes "slot " ++ decimal slot.0 ++ codes " " ++ kind_name kind
anchor_word anchor.Queue = codes "queue"

-- by what an object leads to another
abbrev pub edge_word : Edge → List ℕ
edge_word (edge.Field i) = codes " field " ++ decimal i
edge_word (edge.Dependent slot) = codes " dep " ++ decimal slot.0
edge_word (edge.Entry slot) = codes " entry " ++ decimal slot.0

-- the line of an object with what became of the search for it, that of its anchor, and that of an edge
abbrev pub path_head : Id → List ℕ
path_head goal = codes "path " ++ identity_text goal ++ codes " "

abbrev pub path_line : Id → List ℕ → List ℕ
path_line goal outcome = path_head goal ++ outcome ++ newline

abbrev pub anchor_line : Anchor → Id → List ℕ
anchor_line name x = codes "  " ++ anchor_word name ++ codes " -> " ++ identity_text x ++ newline

abbrev pub edge_line : Id → Edge → Id → List ℕ
edge_line x name y =
    codes "  " ++ identity_text x ++ edge_word name ++ codes " -> " ++ identity_text y ++ newline

-- the lines of a chain, one for each two nodes in a row
pub data AreLines (IsLine : ℕ → ℕ → List ℕ → Type 0) : ℕ → List ℕ → List ℕ → Type 0 where
  last : {x : ℕ} → AreLines IsLine x [] []
  more : {x y : ℕ} {rest line lines : List ℕ} → IsLine x y line → AreLines IsLine y rest lines
      → AreLines IsLine x (y ∷ rest) (line ++ lines)
