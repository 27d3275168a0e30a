-- What lines and scripts say, by worked ones: a line of each command, lines without a reading, and a script
-- of several callers.
use Rattle.std.specs.Prelude.{◌≡◌, ℕ, true, false, List, [], ◌∷◌, ◌++◌, map, codes, Option, Some, None, Ok, Err}
use Rattle.hd_model.specs.{declared.command.Cmd.Cmd}
use Rattle.hd_model.specs.declared.data.Kind.TheVariants as kind
use Rattle.hd_model.specs.declared.data.Strength.TheVariants as strength_of
use Rattle.hd_model.specs.declared.data.Make.TheVariants as make
use Rattle.hd_model.specs.declared.command.Cmd.TheVariants as cmd
use Rattle.hd_model.specs.Grammar.{Reading, command, words_of, reading_of, script_of}
use Rattle.hd_laws.specs.TextLaws.{line}

-- what lines say, each by itself
abbrev pub readings : List (List ℕ) → List (Option Reading)
readings lines = map (λ text. reading_of (words_of text)) lines

-- the lines of commands on objects, on the weak table, and on handles, and the commands
abbrev pub object_lines : List (List ℕ)
object_lines =
    codes "new r0 61 fin" ∷ codes "new r1 2" ∷ codes "set r2 255 r15" ∷ codes "get r3 r4 5"
    ∷ codes "val r6 18446744073709551615" ∷ codes "read r7" ∷ codes "read r07" ∷ codes "copy r8 r9" ∷ codes "drop r10"
    ∷ codes "sput 11 r12" ∷ codes "sget r13 14" ∷ codes "gen r15" ∷ codes "suppress r1"
    ∷ codes "reregister r2" ∷ codes "final r3" ∷ codes "collect 2" ∷ codes "gcroot r4" ∷ codes "cadd r5 r6"
    ∷ codes "cfind r7 r8" ∷ codes "cremove r9" ∷ []

abbrev pub object_commands : List Cmd
object_commands =
    cmd.New 0 61 true ∷ cmd.New 1 2 false ∷ cmd.Set 2 255 15 ∷ cmd.Get 3 4 5
    ∷ cmd.Val 6 18446744073709551615 ∷ cmd.Read 7 ∷ cmd.Read 7 ∷ cmd.Copy 8 9 ∷ cmd.Clear 10
    ∷ cmd.SPut 11 12 ∷ cmd.SGet 13 14 ∷ cmd.Gen 15 ∷ cmd.Suppress 1
    ∷ cmd.Reregister 2 ∷ cmd.Final 3 ∷ cmd.Collect 2 ∷ cmd.GcRoot 4 ∷ cmd.CAdd 5 6
    ∷ cmd.CFind 7 8 ∷ cmd.CRemove 9 ∷ []

abbrev pub handle_lines : List (List ℕ)
handle_lines =
    codes "hnew h0 short r1" ∷ codes "hnew h2 long r3" ∷ codes "hnew h4 strong r5" ∷ codes "hnew h6 pinned r7"
    ∷ codes "hnew h8 ref r9" ∷ codes "hnew h10 var r11 pinned" ∷ codes "hnew h12 dep r13 r14"
    ∷ codes "hget r1 h2" ∷ codes "hset h3 r4" ∷ codes "hsec h5 r6" ∷ codes "hdep r7 h8"
    ∷ codes "hvar h9 short" ∷ codes "hvar h9 long" ∷ codes "hvar h9 strong" ∷ codes "hfree h10"
    ∷ codes "hput 11 h12"
    ∷ codes "hpick h13 14" ∷ codes "addr h15" ∷ codes "hup h1" ∷ codes "hdown h2" ∷ codes "trim short"
    ∷ codes "trim long" ∷ codes "trim strong" ∷ codes "trim pinned" ∷ []

abbrev pub handle_commands : List Cmd
handle_commands =
    cmd.HNew 0 make.Short 1 ∷ cmd.HNew 2 make.Long 3 ∷ cmd.HNew 4 make.Strong 5 ∷ cmd.HNew 6 make.Pinned 7
    ∷ cmd.HNew 8 make.Counted 9 ∷ cmd.HNew 10 (make.Variable strength_of.Pinned) 11
    ∷ cmd.HNew 12 (make.Dependent 14) 13
    ∷ cmd.HGet 1 2 ∷ cmd.HSet 3 4 ∷ cmd.HSec 5 6 ∷ cmd.HDep 7 8 ∷ cmd.HVar 9 strength_of.Short
    ∷ cmd.HVar 9 strength_of.Long ∷ cmd.HVar 9 strength_of.Strong ∷ cmd.HFree 10 ∷ cmd.HPut 11 12
    ∷ cmd.HPick 13 14 ∷ cmd.AddrOf 15 ∷ cmd.HUp 1 ∷ cmd.HDown 2 ∷ cmd.Trim kind.Short
    ∷ cmd.Trim kind.Long ∷ cmd.Trim kind.Strong ∷ cmd.Trim kind.Pinned ∷ []

-- lines past a range, of a kind that is not trimmed, with a word too few and too many, and of no command
abbrev pub unread_lines : List (List ℕ)
unread_lines =
    codes "new r16 0" ∷ codes "new r0 62" ∷ codes "set r0 256 r1" ∷ codes "val r0 18446744073709551616"
    ∷ codes "collect 3" ∷ codes "hget r0 h16" ∷ codes "hput 16 h0" ∷ codes "caller 16" ∷ codes "trim var"
    ∷ codes "hnew h0 var r0" ∷ codes "read r0 r1" ∷ codes "hgett r0 h1" ∷ codes "set r0 -1 r1"
    ∷ codes "read" ∷ codes "set r0 1" ∷ []

-- a script: a comment, a command of caller 0 with a carriage return, an empty line, and then two of caller 2,
-- of which one has a tab and the other a comment, and one of caller 0 again
abbrev pub script : List ℕ
script =
    line (codes "# two callers") ++ line (codes "read r1" ++ 13 ∷ []) ++ line [] ++ line (codes "caller 2")
    ++ line (codes "  drop" ++ 9 ∷ codes "  r3") ++ line (codes "gen r4 # young") ++ line (codes "caller 0")
    ++ codes "hfree h5"

-- they say this
pub record ReadingsAreThese : Type 0 where
  pub objects : readings object_lines ≡ map (λ c. Some (command c)) object_commands
  pub handles : readings handle_lines ≡ map (λ c. Some (command c)) handle_commands
  pub unread : readings unread_lines ≡ map (λ _. None) unread_lines
  pub scripts : script_of script
      ≡ Ok ((cmd.Read 1 ∷ cmd.HFree 5 ∷ []) ∷ [] ∷ (cmd.Clear 3 ∷ cmd.Gen 4 ∷ []) ∷ [])
  -- the third line is at fault
  pub fault : script_of (line (codes "read r1") ++ line [] ++ line (codes "reed r1")) ≡ Err 3
