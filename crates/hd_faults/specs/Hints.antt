-- What may have been meant by a word: the nearest of some names.
use Rattle.std.specs.Prelude.{ℕ, ◌+◌, ◌/◌, nat_lt, nat_eq, if◌then◌else◌, List, [], ◌∷◌, length, codes, Option, Some, None}
use Rattle.strsim.specs.Edits.{levenshtein_row}
use Rattle.hd_faults.specs.declared.fault.Cause.{Cause}
use Rattle.hd_faults.specs.declared.fault.Cause.TheVariants as cause
use Rattle.hd_model.specs.declared.operand.Operand.{Operand}
use Rattle.hd_model.specs.declared.operand.Operand.TheVariants.{Object, Handle, Number, Kind, PlainKind, Strength, Fin}

-- how many bytes are put in, taken out or replaced to make a name of a word, at least
abbrev pub edits : List ℕ → List ℕ → ℕ
edits word name = levenshtein_row nat_eq word name (length name)

-- at most 2, or a third of the length of the word
abbrev pub most_edits : List ℕ → ℕ
most_edits word = if nat_lt 2 (length word / 3) then length word / 3 else 2

-- the first of the names with the fewest edits, if these are below a bound, and else the best so far
abbrev pub nearer : List ℕ → ℕ → Option (List ℕ) → List (List ℕ) → Option (List ℕ)
nearer word bound best [] = best
nearer word bound best (name ∷ names) =
    if nat_lt (edits word name) bound then nearer word (edits word name) (Some name) names
    else nearer word bound best names

-- what may have been meant by a word. One of more than 16 bytes is meant for no name.
abbrev pub nearest : List ℕ → List (List ℕ) → Option (List ℕ)
nearest word names = if nat_lt 16 (length word) then None else nearer word (most_edits word + 1) None names

-- all commands, and `caller`
abbrev pub commands : List (List ℕ)
commands =
    codes "caller" ∷ codes "new" ∷ codes "set" ∷ codes "get" ∷ codes "val" ∷ codes "read" ∷ codes "copy"
    ∷ codes "drop" ∷ codes "sput" ∷ codes "sget" ∷ codes "gen" ∷ codes "suppress" ∷ codes "reregister"
    ∷ codes "final" ∷ codes "collect" ∷ codes "gcroot" ∷ codes "cadd" ∷ codes "cfind" ∷ codes "cremove"
    ∷ codes "hnew" ∷ codes "hget" ∷ codes "hset" ∷ codes "hsec" ∷ codes "hdep" ∷ codes "hvar" ∷ codes "hfree"
    ∷ codes "hput" ∷ codes "hpick" ∷ codes "addr" ∷ codes "hup" ∷ codes "hdown" ∷ codes "trim" ∷ []

-- the strengths, which are also the kinds without extra data, and all kinds
abbrev pub strengths : List (List ℕ)
strengths = codes "short" ∷ codes "long" ∷ codes "strong" ∷ codes "pinned" ∷ []

abbrev pub kinds : List (List ℕ)
kinds =
    codes "short" ∷ codes "long" ∷ codes "strong" ∷ codes "pinned" ∷ codes "var" ∷ codes "ref" ∷ codes "dep"
    ∷ []

-- the names that an operand may be
abbrev pub names_of : Operand → List (List ℕ)
names_of Object = []
names_of Handle = []
names_of (Number most) = []
names_of Kind = kinds
names_of PlainKind = strengths
names_of Strength = strengths
names_of Fin = codes "fin" ∷ []

-- the names that may have been meant where a cause is found
abbrev pub names_for : Cause → List (List ℕ)
names_for cause.Unknown = commands
names_for (cause.Count least most has) = []
names_for (cause.Operand number wanted) = names_of wanted
names_for cause.TooMany = []
