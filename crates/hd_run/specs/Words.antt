-- What the words of a command line ask for. The modes, the options and their limits are this project's own;
-- which words a command takes, and which values it finds in them, is as `clap` has it.
use Rattle.std.specs.Prelude.{ℕ, Bool, true, false, List, [], ◌∷◌, map, codes, Option, None, Some, String, string_bytes, option_map, option_and_then, if◌then◌else◌}
use Rattle.std.specs.{Option.option_map_or, declared.alloc.Global.Global, Str.bytes_eq, Str.Parse.digits_value, Str.Parse.without_leading_plus}
use Rattle.clap.specs.Words.{App, Row, Rule, Text, first_of, one_of, fault_of, matches_of, new_app, new_rule, with_rule}
use Rattle.clap.specs.{declared.error.kind.ErrorKind.ErrorKind, declared.builder.action.ArgAction.TheVariants.SetTrue, declared.builder.value_parser.ValueParser.TheVariants.Unsigned}
use Rattle.hd_model.specs.declared.limits.TheConstants.{HEAP, BLOCKS, MOST_ROUNDS}
use Rattle.hd_run.specs.{declared.limits.TheConstants.LEAST_HEAP, declared.request.TheConstants.ROUNDS, declared.mode.Mode.Mode, declared.request.Request.Request}
use Rattle.hd_print.specs.EntryLines.{form_of}
use Rattle.hd_run.specs.Modes.{mode_of, traits_of, runs_alone}

-- a positional word, which is required: the mode
abbrev pub mode_rule : Rule
mode_rule = record (new_rule (codes "mode")) { required = true }

-- an option with a whole number within limits
abbrev pub number_rule : Text → ℕ → ℕ → Rule
number_rule name least most = record (new_rule name) {
  long = Some name;
  parser = Some (Unsigned least most);
}

-- an option without a value
abbrev pub flag_rule : Text → Rule
flag_rule name = record (new_rule name) { long = Some name; action = Some SetTrue }

-- a mode, and three options with a number
abbrev pub numbered : App
numbered = with_rule (with_rule (with_rule (with_rule (new_app (codes "hdt")) mode_rule)
    (number_rule (codes "heap") LEAST_HEAP HEAP)) (number_rule (codes "blocks") 1 BLOCKS))
    (number_rule (codes "rounds") 1 MOST_ROUNDS)

-- the command: these, and a flag
abbrev pub program : App
program = with_rule numbered (flag_rule (codes "slots"))

-- the number that a text of digits states
abbrev pub number_in : Text → ℕ
number_in text = digits_value 10 (without_leading_plus text)

-- the number of an option, or its default where it is not given
abbrev pub number_of : List Row → Text → ℕ → ℕ
number_of rows name default = option_map_or number_in (one_of name rows) default

-- whether a flag is given: its text is then `true`
abbrev pub is_given : List Row → Text → Bool
is_given rows name = option_map_or (λ text. bytes_eq text (codes "true")) (first_of name rows) false

-- a mode with the numbers of the options and the flag
abbrev pub with_numbers : List Row → Mode → Request
with_numbers rows mode = record {
  mode = mode;
  limits = record {
    heap = number_of rows (codes "heap") HEAP;
    blocks = number_of rows (codes "blocks") BLOCKS;
  };
  rounds = number_of rows (codes "rounds") ROUNDS;
  form = form_of (is_given rows (codes "slots"));
}

-- what is asked for by what the command finds in the words
abbrev pub asked_by : List Row → Option Request
asked_by rows = option_map (with_numbers rows) (option_and_then mode_of (first_of (codes "mode") rows))

-- the same, unless the command finds a fault
abbrev pub unless_faulty : List ErrorKind → Option Request → Option Request
unless_faulty [] asked = asked
unless_faulty (fault ∷ more) asked = None

-- what words ask for, where they are valid: the command takes them, and a mode is named
unfoldable pub request_of : List (String Global) → Option Request
request_of words = let texts = map string_bytes words in
    unless_faulty (fault_of program texts) (asked_by (matches_of program texts))

-- a request, where one thread runs its script, and its roots are listed or not
abbrev pub if_alone : Bool → Option Request → Option Request
if_alone lists_roots None = None
if_alone lists_roots (Some r) = if runs_alone lists_roots (traits_of r.mode) then Some r else None

-- a request, where it is one for the mode `solo`
abbrev pub solo_of : Option Request → Option Request
solo_of asked = if_alone false asked

-- a request, where it is one for the mode `roots`
abbrev pub listing_of : Option Request → Option Request
listing_of asked = if_alone true asked

-- a request, where it is one for a mode that judges
abbrev pub audit_of : Option Request → Option Request
audit_of None = None
audit_of (Some r) = if (traits_of r.mode).judges then Some r else None
