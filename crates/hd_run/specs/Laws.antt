-- What the turns of a journal say of each caller's part of it; and the limits as numbers, since a definition
-- cites the program's own constants, which another number would change with them.
use Rattle.std.specs.Prelude.{◌≡◌, ℕ, List, [], ◌++◌, map, codes, Option}
use Rattle.clap.specs.Words.{new_app, with_rule}
use Rattle.hd_model.specs.{declared.command.Cmd.Cmd, declared.data.Entry.Entry, declared.data.RootId.RootId, Run.part_of, Run.commands_of}
use Rattle.hd_model.specs.declared.limits.TheConstants.{HEAP, BLOCKS, MOST_ROUNDS, MOST_BYTES}
use Rattle.hd_print.specs.declared.entries.Form.TheVariants.{Plain}
use Rattle.hd_run.specs.declared.fault.Fault.TheVariants.{Usage, Unread, OverSize, BadLine, NoMemory}
use Rattle.hd_run.specs.declared.ending.Ending.TheVariants.{Refused, Stopped, Done}
use Rattle.hd_run.specs.{declared.ending.Ran.Ran, declared.limits.TheConstants.LEAST_HEAP, declared.mode.Mode.Mode, Report.status_of}
use Rattle.hd_run.specs.Turns.{list_of, turns_from, turn_of, taken_by}
use Rattle.hd_run.specs.Words.{program, mode_rule, number_rule, flag_rule, with_numbers}
use Rattle.hd_run.specs.{Audit.finding_status, declared.audit.Finding.TheVariants.Right, declared.audit.Finding.TheVariants.WrongAt}

-- Where the turns of a journal are a prefix of all turns of a script, each caller's list is the
-- commands of its part, and then those of its turns that are left.
abbrev pub PartsFollowTheTurns : Type 0
PartsFollowTheTurns =
    (lists : List (List Cmd)) (journal : List Entry) (left : List (ℕ × Cmd)) →
    turns_from 0 lists ≡ map turn_of journal ++ left → (caller : ℕ) →
    list_of lists caller ≡ commands_of (part_of journal caller) ++ taken_by caller left

pub record LimitsAreThese : Type 0 where
  -- the words take a heap of 3 to 1,000,000 cells, 1 to 256 blocks, and 1 to 3,000 rounds
  pub words : program ≡ with_rule (with_rule (with_rule (with_rule (with_rule (new_app (codes "hdt"))
      mode_rule) (number_rule (codes "heap") 3 1000000)) (number_rule (codes "blocks") 1 256))
      (number_rule (codes "rounds") 1 3000)) (flag_rule (codes "slots"))
  -- where they name no number, the heap has 1,000,000 cells, there are 256 blocks, and a load has 100 rounds;
  -- and lines are plain
  pub defaults : (mode : Mode) → with_numbers [] mode ≡ record {
    mode = mode;
    limits = record { heap = 1000000; blocks = 256 };
    rounds = 100;
    form = Plain;
  }
  -- the same limits hold where no words are read
  pub heap : (LEAST_HEAP ≡ 3) × (HEAP ≡ 1000000)
  pub blocks : BLOCKS ≡ 256
  pub rounds : MOST_ROUNDS ≡ 3000
  -- a script has at most 8,388,608 bytes
  pub bytes : MOST_BYTES ≡ 8388608
  -- the statuses
  pub done : (run : Ran) (roots : Option (List RootId)) → status_of (Done run roots) ≡ 0
  pub usage : status_of (Refused Usage) ≡ 2
  pub size : status_of (Refused OverSize) ≡ 3
  pub line : (k : ℕ) → status_of (Refused (BadLine k)) ≡ 3
  pub unread : status_of (Refused Unread) ≡ 4
  pub memory : status_of (Refused NoMemory) ≡ 6
  pub stopped : (run : Ran) → status_of (Stopped run) ≡ 6
  pub right : finding_status Right ≡ 0
  pub wrong : (line : ℕ) → finding_status (WrongAt line) ≡ 7
