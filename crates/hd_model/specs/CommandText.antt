-- The line of each command, as a script has it: its words with one blank between
-- each two. Numbers are decimal, without leading zeros.
use Rattle.std.specs.Prelude.{ℕ, List, ◌∷◌, ◌++◌, map, codes, decimal}
use Rattle.std.specs.List.{join_with_byte}
use Rattle.hd_model.specs.Data.{Kind, Strength, Cmd}
use Rattle.hd_model.specs.declared.data.Kind.TheVariants as kind
use Rattle.hd_model.specs.declared.data.Strength.TheVariants as strength
use Rattle.hd_model.specs.Kinds.{kind_of}
use Rattle.hd_model.specs.Rows.{Word, object, handle, index, field, field_count, number, generation, makes, plain_kind, of_strength, registered, row_of, words_after}

-- an object register, as `r7`
abbrev pub object_word : ℕ → List ℕ
object_word d = codes "r" ++ decimal d

-- a handle register, as `h7`
abbrev pub handle_word : ℕ → List ℕ
handle_word d = codes "h" ++ decimal d

-- a strength of a variable handle
abbrev pub strength_word : Strength → List ℕ
strength_word strength.Short = codes "short"
strength_word strength.Long = codes "long"
strength_word strength.Strong = codes "strong"
strength_word strength.Pinned = codes "pinned"

-- a kind of handle
abbrev pub kind_name : Kind → List ℕ
kind_name kind.Short = codes "short"
kind_name kind.Long = codes "long"
kind_name kind.Strong = codes "strong"
kind_name kind.Pinned = codes "pinned"
kind_name kind.Variable = codes "var"
kind_name kind.Counted = codes "ref"
kind_name kind.Dependent = codes "dep"

-- a word of a command
abbrev pub word_text : Word → List ℕ
word_text (object d) = object_word d
word_text (handle d) = handle_word d
word_text (index k) = decimal k
word_text (field i) = decimal i
word_text (field_count n) = decimal n
word_text (number n) = decimal n
word_text (generation n) = decimal n
word_text (makes make) = kind_name (kind_of make)
word_text (plain_kind kind) = kind_name kind
word_text (of_strength strength) = strength_word strength
word_text registered = codes "fin"

-- the words of a command
abbrev pub command_words : Cmd → List (List ℕ)
command_words c = (row_of c).word ∷ map word_text (words_after c)

-- the text of a command: its words with one blank, byte 32, between each two
abbrev pub command_text : Cmd → List ℕ
command_text c = join_with_byte 32 (command_words c)
