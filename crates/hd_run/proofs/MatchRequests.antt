-- What the command's matches ask for, and when the words are valid.
use Rattle.hd_run.proofs.Basics.{BLOCKS, Err, GivesNumber, GivesNumbers, Global, HEAP, IsAmong, IsInLimits, IsUnsignedIn, Kinds, LEAST_HEAP, List, MOST_ROUNDS, Mode, None, Ok, Option, ParsesUnsigned, ReadsOne, Result, Row, Some, String, Text, [], ap, arith, asked_by, codes, false, fault_of, first_value, first_value-rows, inl, inr, is_given, map, matches_of, mode_of, number_in, number_of, one_of, one_text-rows, option_and_then, option_map, option_map_or, program, refl, rows_of, string_bytes, sym, unless_faulty, unwrap_or, with_numbers, ℕ, ◌-◌, ◌^◌, ◌∙◌, ◌∷◌, ◌≡◌, ◌≢◌, ◌≤◌, ◌⊎◌}
use Rattle.std.specs.Str.{bytes_eq}
use Rattle.clap.specs.{declared.error.kind.ErrorKind.ErrorKind, declared.parser.matches.Found.Found}
use Rattle.hd_run.specs.{declared.request.TheConstants.ROUNDS, Words.request_of}
use Rattle.clap.specs.declared.error.kind.ErrorKind.TheVariants as kind

-- what an option's text reads as, where it is a number of 32 bits
pub number_read : {E : Type 0} (G : Text → Result ℕ E → Type 0) (o : Option Text) (r : Option ℕ) (default : ℕ)
    → ((t : Text) (x : Result ℕ E) → G t x → ParsesUnsigned 32 10 t x)
    → ((t : Text) → o ≡ Some t → IsUnsignedIn 0 (2 ^ 32 - 1) t) → (o ≡ None → r ≡ None)
    → ((t : Text) → o ≡ Some t → ReadsOne G t r) → unwrap_or r default ≡ option_map_or number_in o default
number_read G None r default only small none some = ap (λ (x : Option ℕ). unwrap_or x default) (none refl)
number_read G (Some t) (Some n) default only small none some = (only t (Ok n) (some t refl)).1
number_read G (Some t) None default only small none some =
    let read = some t refl in
    let is = small t refl in
    absurd (only t (Err read.0) read.1 (is.0, omega (arith, is.3)))

-- the number of an option is within its limits, where its default is
in_limits : (found : Found) (name : Text) (least most default : ℕ) → GivesNumber found name least most
    → least ≤ default → default ≤ most
    → (least ≤ number_of (rows_of found) name default) × (number_of (rows_of found) name default ≤ most)
in_limits found name least most default gives low high =
    go (one_of name (rows_of found)) (λ t is. gives t (one_text-rows found name ∙ is))
  where
    go : (o : Option Text) → ((t : Text) → o ≡ Some t → IsUnsignedIn least most t)
        → (least ≤ option_map_or number_in o default) × (option_map_or number_in o default ≤ most)
    go None is = (low, high)
    go (Some t) is = let number = is t refl in (number.2, number.3)

pub heap_in_limits : (found : Found) → GivesNumbers found →
    (LEAST_HEAP ≤ number_of (rows_of found) (codes "heap") HEAP)
    × (number_of (rows_of found) (codes "heap") HEAP ≤ HEAP)
heap_in_limits found gives =
    in_limits found (codes "heap") LEAST_HEAP HEAP HEAP gives.heap (omega arith) (omega arith)

pub blocks_in_limits : (found : Found) → GivesNumbers found →
    (1 ≤ number_of (rows_of found) (codes "blocks") BLOCKS)
    × (number_of (rows_of found) (codes "blocks") BLOCKS ≤ BLOCKS)
blocks_in_limits found gives =
    in_limits found (codes "blocks") 1 BLOCKS BLOCKS gives.blocks (omega arith) (omega arith)

pub asked_in_limits : (found : Found) (mode : Mode) → GivesNumbers found
    → IsInLimits (with_numbers (rows_of found) mode)
asked_in_limits found mode gives =
    let rounds =
    in_limits found (codes "rounds") 1 MOST_ROUNDS ROUNDS gives.rounds (omega arith) (omega arith) in
    record { least = rounds.0; most = rounds.1 }

-- what is asked for, by the name of the mode that was found
pub asked_none : (found : Found) → first_value found (codes "mode") ≡ None → None ≡ asked_by (rows_of found)
asked_none found none = let same = first_value-rows found (codes "mode") in
    ap (λ (o : Option Text). option_map (with_numbers (rows_of found)) (option_and_then mode_of o))
    (sym none ∙ same)

pub asked_mode : (found : Found) (t : Text) (o : Option Mode) → first_value found (codes "mode") ≡ Some t
    → o ≡ mode_of t → option_map (with_numbers (rows_of found)) o ≡ asked_by (rows_of found)
asked_mode found t o some is = let same = first_value-rows found (codes "mode") in
    ap (option_map (with_numbers (rows_of found))) is
    ∙ ap (λ (o : Option Text). option_map (with_numbers (rows_of found)) (option_and_then mode_of o))
    (sym some ∙ same)

-- whether a flag is given, by its text
pub given_read : (found : Found) (name : Text) (o : Option Text) → first_value found name ≡ o
    → option_map_or (λ text. bytes_eq text (codes "true")) o false ≡ is_given (rows_of found) name
given_read found name o is = let same = first_value-rows found name in
    ap (λ (p : Option Text). option_map_or (λ text. bytes_eq text (codes "true")) p false) (sym is ∙ same)

-- where the command finds no fault in the words, they ask for what its matches ask for
pub valid_words : (words : List (String Global)) (rows : List Row)
    → fault_of program (map string_bytes words) ≡ []
    → rows ≡ matches_of program (map string_bytes words) → asked_by rows ≡ request_of words
unfolding request_of
valid_words words rows none is = ap asked_by is
    ∙ ap (λ v. unless_faulty v (asked_by (matches_of program (map string_bytes words)))) (sym none)

-- and where it finds one, for nothing
pub invalid_words : (words : List (String Global)) (k : ErrorKind)
    → (k ≡ kind.OutOfMemory) ⊎ IsAmong k (fault_of program (map string_bytes words)) → k ≢ kind.OutOfMemory
    → None ≡ request_of words
unfolding request_of
invalid_words words k (inl memory) other = absurd (other memory)
invalid_words words k (inr among) other = go (fault_of program (map string_bytes words)) refl among
  where
    go : (faults : Kinds) → fault_of program (map string_bytes words) ≡ faults → IsAmong k faults
        → None ≡ request_of words
    go [] is among = absurd among
    go (f ∷ fs) is among = ap (λ v. unless_faulty v (asked_by (matches_of program (map string_bytes words))))
        (sym is)
