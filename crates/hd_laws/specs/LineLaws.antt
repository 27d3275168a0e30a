-- What the line of each command is, what a list of roots is, and how the lines of a text that is judged are
-- cut and numbered.
use Rattle.std.specs.Prelude.{◌≡◌, ℕ, ◌+◌, ◌<◌, ◌≤◌, List, [], ◌∷◌, ◌++◌, map, length, take, codes, Some, None}
use Rattle.hd_model.specs.{declared.data.Id.Id, declared.command.Cmd.Cmd}
use Rattle.hd_model.specs.declared.data.Kind.TheVariants as kind
use Rattle.hd_model.specs.declared.data.Make.TheVariants as make
use Rattle.hd_model.specs.declared.data.Strength.TheVariants as strength_of
use Rattle.hd_model.specs.declared.command.Cmd.TheVariants as cmd
use Rattle.hd_model.specs.State.{Numbers, Handle, nothing, strength, secondary, count}
use Rattle.hd_model.specs.CommandText.{command_text}
use Rattle.hd_model.specs.RootText.{list_text, roots_in, root_id}
use Rattle.hd_model.specs.RunTexts.{AreRight, IsNoRun, cut_lines}
use Rattle.hd_laws.specs.CollectionSamples.{id_of}
use Rattle.hd_laws.specs.CommandLaws.{handle_with}
use Rattle.hd_laws.specs.TableLaws.{each_command}
use Rattle.hd_laws.specs.TextLaws.{line}

-- ---- commands

-- the lines of one of each command, and of an `hnew` of each kind
abbrev pub command_lines : List (List ℕ)
command_lines =
    codes "new r1 2 fin" ∷ codes "set r2 3 r4" ∷ codes "get r3 r4 5" ∷ codes "val r4 5" ∷ codes "read r5"
    ∷ codes "copy r6 r7" ∷ codes "drop r7" ∷ codes "sput 8 r9" ∷ codes "sget r9 10" ∷ codes "gen r10"
    ∷ codes "suppress r11" ∷ codes "reregister r12" ∷ codes "final r13" ∷ codes "collect 1"
    ∷ codes "gcroot r14" ∷ codes "cadd r13 r14" ∷ codes "cfind r14 r15" ∷ codes "cremove r15"
    ∷ codes "hnew h1 strong r2" ∷ codes "hget r2 h3" ∷ codes "hset h3 r4" ∷ codes "hsec h4 r5"
    ∷ codes "hdep r5 h6" ∷ codes "hvar h6 long" ∷ codes "hfree h7" ∷ codes "hput 8 h9"
    ∷ codes "hpick h9 10" ∷ codes "addr h10" ∷ codes "hup h11" ∷ codes "hdown h12"
    ∷ codes "trim pinned" ∷ []

abbrev pub makes : List Cmd
makes =
    cmd.HNew 0 make.Short 1 ∷ cmd.HNew 2 make.Long 3 ∷ cmd.HNew 4 make.Strong 5 ∷ cmd.HNew 6 make.Pinned 7
    ∷ cmd.HNew 8 (make.Variable strength_of.Pinned) 9 ∷ cmd.HNew 10 make.Counted 11
    ∷ cmd.HNew 12 (make.Dependent 14) 13 ∷ []

abbrev pub make_lines : List (List ℕ)
make_lines =
    codes "hnew h0 short r1" ∷ codes "hnew h2 long r3" ∷ codes "hnew h4 strong r5" ∷ codes "hnew h6 pinned r7"
    ∷ codes "hnew h8 var r9 pinned" ∷ codes "hnew h10 ref r11" ∷ codes "hnew h12 dep r13 r14" ∷ []

-- ---- roots

-- handles by their slots, all of object 1.1 but for a null one
abbrev pub nine_handles : List (ℕ × Handle Id)
nine_handles =
    (64, handle_with kind.Short (Some (id_of 4294967297)) nothing)
    ∷ (128, handle_with kind.Long (Some (id_of 4294967297)) nothing)
    ∷ (192, handle_with kind.Strong (Some (id_of 4294967297)) nothing)
    ∷ (193, handle_with kind.Strong None nothing)
    ∷ (256, handle_with kind.Pinned (Some (id_of 4294967297)) nothing)
    ∷ (320, handle_with kind.Variable (Some (id_of 4294967297)) (strength strength_of.Pinned))
    ∷ (448, handle_with kind.Counted (Some (id_of 4294967297)) (count 0))
    ∷ (449, handle_with kind.Counted (Some (id_of 4294967297)) (count 2))
    ∷ (576, handle_with kind.Dependent (Some (id_of 4294967297)) (secondary None)) ∷ []

-- the lines of commands and of roots are these
pub record LinesAreThese : Type 0 where
  pub commands : map command_text each_command ≡ command_lines
  pub kinds : map command_text makes ≡ make_lines
  pub roots : list_text (roots_in root_id nine_handles)
      ≡ line (codes "root 192 strong 1.1") ++ line (codes "root 256 pinned 1.1")
      ++ line (codes "root 320 var 1.1") ++ line (codes "root 449 ref 1.1") ++ line (codes "roots 4")

-- ---- texts that are judged

-- of a text that is none of a run of the lists, the number that is named is that of a line, from 1, or one
-- more than there are lines; and it is 1 where the first line is not right
pub record WrongLinesHaveNumbers (n : Numbers) (lists : List (List Cmd)) (bytes : List ℕ) : Type 0 where
  pub low : (k : ℕ) → IsNoRun n lists bytes k → 1 ≤ k
  pub high : (k : ℕ) → IsNoRun n lists bytes k → k ≤ length (cut_lines bytes) + 1
  pub first : 0 < length (cut_lines bytes) → (AreRight n lists (take 1 (cut_lines bytes)) → ⊥)
      → IsNoRun n lists bytes 1

-- lines are cut after each byte 10, an empty line is one too, and the last need not have an end
pub record WrongLinesAreNumbered : Type 0 where
  pub cut : cut_lines (codes "ab" ++ 10 ∷ 10 ∷ codes "c")
      ≡ (97 ∷ 98 ∷ 10 ∷ []) ∷ (10 ∷ []) ∷ (99 ∷ []) ∷ []
  pub numbers : (n : Numbers) (lists : List (List Cmd)) (bytes : List ℕ) → WrongLinesHaveNumbers n lists bytes
