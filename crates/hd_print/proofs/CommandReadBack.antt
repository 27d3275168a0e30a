-- The line of a command is read as that command.
use Rattle.hd_print.proofs.Basics.{FIELDS, List, Ok, Option, REGISTERS, Reading, Some, [], and_from, and_parts, ap, arith, codes, command, command_text, command_words, decimal, decimal_nonempty, false, first_fault, handle_register_in, handle_word, join_with_byte, kind_name, length, list_all, ltb, ltb-true, map, object_register_in, object_word, option_map, refl, strength_word, sym, three, true, unless_fault, words_of, ℕ, ◌&&◌, ◌++◌, ◌<◌, ◌^◌, ◌∙◌, ◌∷◌, ◌≡◌}
use Rattle.std.specs.Prelude.{Bool, None, cond, option_and_then}
use Rattle.hd_model.specs.{declared.data.Kind.Kind, declared.data.Strength.Strength, declared.data.Make.Make, declared.command.Cmd.Cmd, Kinds.kind_of, Kinds.is_paired, CommandText.word_text, Valid.IsInRange, Valid.IsValid, Valid.IsValidMake}
use Rattle.hd_model.specs.Rows.{Word, object, handle, index, field, field_count, number, generation, makes, plain_kind, of_strength, registered, Makes, ValueOf, extra_of, operand_of, row_of, words_after}
use Rattle.hd_model.specs.Grammar.{is_kind, made_of, value_in, reading_of, readings_of, lists_of, script_of, register_in, strength_of, make_of, trimmed_kind_of, fin_of, two_words, three_words, four_words, five_words, hnew_of}
use Rattle.hd_model.specs.declared.limits.TheConstants.{OLDEST}
use Rattle.hd_print.proofs.Numerals.{number_again, digit_bytes}
use Rattle.hd_print.proofs.LineWords.{is_high, IsWord, AreWords, words_again, line_again}
use Rattle.hd_model.specs.declared.data.Kind.TheVariants as kind
use Rattle.hd_model.specs.declared.data.Strength.TheVariants as strength
use Rattle.hd_model.specs.declared.data.Make.TheVariants as make
use Rattle.hd_model.specs.declared.command.Cmd.TheVariants as cmd

-- ---- words

object_again : (d : ℕ) → d < REGISTERS → object_register_in (object_word d) ≡ Some d
unfolding register_in
object_again d h = number_again 15 d (omega arith) (omega arith)

handle_again : (d : ℕ) → d < REGISTERS → handle_register_in (handle_word d) ≡ Some d
unfolding register_in
handle_again d h = number_again 15 d (omega arith) (omega arith)

strength_again : (s : Strength) → strength_of (strength_word s) ≡ Some s
unfolding strength_of
strength_again strength.Short = refl
strength_again strength.Long = refl
strength_again strength.Strong = refl
strength_again strength.Pinned = refl

trimmed_again : (k : Kind) → is_paired k ≡ false → trimmed_kind_of (kind_name k) ≡ Some k
unfolding trimmed_kind_of
trimmed_again kind.Short h = refl
trimmed_again kind.Long h = refl
trimmed_again kind.Strong h = refl
trimmed_again kind.Pinned h = refl
trimmed_again kind.Variable h = absurd cc
trimmed_again kind.Counted h = absurd cc
trimmed_again kind.Dependent h = absurd cc

kind_again : (m : Make) → is_kind (kind_name (kind_of m)) ≡ true
unfolding make_of
kind_again make.Short = refl
kind_again make.Long = refl
kind_again make.Strong = refl
kind_again make.Pinned = refl
kind_again (make.Variable s) = refl
kind_again make.Counted = refl
kind_again (make.Dependent s) = refl

-- what a word says
abbrev value_of : (w : Word) → ValueOf (operand_of w)
value_of (object d) = d
value_of (handle d) = d
value_of (index k) = k
value_of (field i) = i
value_of (field_count n) = n
value_of (number n) = n
value_of (generation n) = n
value_of (makes m) = tt
value_of (plain_kind k) = k
value_of (of_strength s) = s
value_of registered = true

word_again : (w : Word) → IsInRange w → value_in (operand_of w) (word_text w) ≡ Some (value_of w)
unfolding fin_of
word_again (object d) h = object_again d h
word_again (handle d) h = handle_again d h
word_again (index k) h = number_again 15 k (omega (arith, h)) (omega arith)
word_again (field i) h = number_again 255 i (omega (arith, h)) (omega arith)
word_again (field_count n) h = number_again FIELDS n h (omega arith)
word_again (number n) h = number_again 18446744073709551615 n (omega (arith, h)) (omega arith)
word_again (generation n) h = number_again 2 n h (omega arith)
word_again (makes m) h =
    let where_kind : Bool → Option (Unit {0}) = λ x. cond x (Some tt) None in
    ap where_kind (kind_again m)
word_again (plain_kind k) h = trimmed_again k h
word_again (of_strength s) h = strength_again s
word_again registered h = refl

-- each of these words is in its range
abbrev AllInRange : List Word → Type 0
AllInRange [] = Unit {0}
AllInRange (w ∷ ws) = IsInRange w × AllInRange ws

-- what is made of what words say
abbrev made_by : {A : Type 0} → (ws : List Word) → Makes A (map operand_of ws) → A
made_by [] made = made
made_by (w ∷ ws) make = made_by ws (make (value_of w))

made_again : {A : Type 0} (ws : List Word) (make : Makes A (map operand_of ws)) → AllInRange ws
    → made_of (map operand_of ws) make (map word_text ws) ≡ Some (made_by ws make)
made_again {A} [] make h = refl
made_again {A} (w ∷ ws) make h =
    let after : ValueOf (operand_of w) → Option A =
    λ v. made_of (map operand_of ws) (make v) (map word_text ws) in
    ap (option_and_then after) (word_again w h.0) ∙ made_again ws (make (value_of w)) h.1

-- ---- a new handle

three_said : {A B C : Type 0} (f : A → B → C → Cmd) (o : Option A) (p : Option B) (q : Option C) (a : A)
    (b : B) (c : C) → o ≡ Some a → p ≡ Some b → q ≡ Some c
    → option_map command (three f o p q) ≡ Some (command (f a b c))
three_said f o p q a b c e g h =
    ap (λ x. option_map command (three f x p q)) e ∙ ap (λ y. option_map command (three f (Some a) y q)) g
    ∙ ap (λ z. option_map command (three f (Some a) (Some b) z)) h

module _ (d t : ℕ) (small_d : d < REGISTERS) (small_t : t < REGISTERS) where
  plain_again : (make : Make) → option_map command
      (three cmd.HNew (handle_register_in (handle_word d)) (Some make) (object_register_in (object_word t)))
      ≡ Some (command (cmd.HNew d make t))
  plain_again make = three_said cmd.HNew _ (Some make) _ d make t
      (handle_again d small_d) refl (object_again t small_t)

  hnew_again : (make : Make) → IsValidMake make
      → reading_of (command_words (cmd.HNew d make t)) ≡ Some (command (cmd.HNew d make t))
  unfolding reading_of four_words five_words hnew_of make_of
  hnew_again make.Short v = plain_again make.Short
  hnew_again make.Long v = plain_again make.Long
  hnew_again make.Strong v = plain_again make.Strong
  hnew_again make.Pinned v = plain_again make.Pinned
  hnew_again make.Counted v = plain_again make.Counted
  hnew_again (make.Variable s) v =
      three_said (λ h u x. cmd.HNew h (make.Variable x) u) _ _ _ d t s
      (handle_again d small_d) (object_again t small_t) (strength_again s)
  hnew_again (make.Dependent s) v =
      three_said (λ h u x. cmd.HNew h (make.Dependent x) u) _ _ _ d t s
      (handle_again d small_d) (object_again t small_t) (object_again s v)

extra_in : (make : Make) → IsValidMake make → AllInRange (extra_of make)
extra_in make.Short v = tt
extra_in make.Long v = tt
extra_in make.Strong v = tt
extra_in make.Pinned v = tt
extra_in (make.Variable s) v = (tt, tt)
extra_in make.Counted v = tt
extra_in (make.Dependent s) v = (v, tt)

-- ---- commands

-- the words of a command are words of a line, and are read as the command
record IsSaid (c : Cmd) : Type 0 where
  word : (ltb 0 (length (row_of c).word) && list_all is_high (row_of c).word) ≡ true
  after : AllInRange (words_after c)
  said : reading_of (command_words c) ≡ Some (command c)

-- by a form of the command
by_form : (c : Cmd) (make : Makes Cmd (map operand_of (words_after c))) → made_by (words_after c) make ≡ c
    → (ltb 0 (length (row_of c).word) && list_all is_high (row_of c).word) ≡ true
    → reading_of (command_words c)
    ≡ option_map command (made_of (map operand_of (words_after c)) make (map word_text (words_after c)))
    → AllInRange (words_after c) → IsSaid c
by_form c make same is_word read in_range = record {
  word = is_word;
  after = in_range;
  said = read ∙ ap (option_map command) (made_again (words_after c) make in_range)
      ∙ ap (λ x. Some (command x)) same;
}

said_again : (c : Cmd) → IsValid c → IsSaid c
unfolding reading_of two_words three_words four_words
said_again (cmd.New d fields false) v =
    by_form (cmd.New d fields false) (λ d n. cmd.New d n false) refl refl refl (v.0, (v.1, tt))
said_again (cmd.New d fields true) v =
    by_form (cmd.New d fields true) cmd.New refl refl refl (v.0, (v.1, (tt, tt)))
said_again (cmd.Set o i r) v = by_form (cmd.Set o i r) cmd.Set refl refl refl (v.0, (v.1, (v.2, tt)))
said_again (cmd.Get d o i) v = by_form (cmd.Get d o i) cmd.Get refl refl refl (v.0, (v.1, (v.2, tt)))
said_again (cmd.Val o n) v = by_form (cmd.Val o n) cmd.Val refl refl refl (v.0, (v.1, tt))
said_again (cmd.Read o) v = by_form (cmd.Read o) cmd.Read refl refl refl (v, tt)
said_again (cmd.Copy d s) v = by_form (cmd.Copy d s) cmd.Copy refl refl refl (v.0, (v.1, tt))
said_again (cmd.Clear d) v = by_form (cmd.Clear d) cmd.Clear refl refl refl (v, tt)
said_again (cmd.SPut k s) v = by_form (cmd.SPut k s) cmd.SPut refl refl refl (v.0, (v.1, tt))
said_again (cmd.SGet d k) v = by_form (cmd.SGet d k) cmd.SGet refl refl refl (v.0, (v.1, tt))
said_again (cmd.Gen s) v = by_form (cmd.Gen s) cmd.Gen refl refl refl (v, tt)
said_again (cmd.Suppress s) v = by_form (cmd.Suppress s) cmd.Suppress refl refl refl (v, tt)
said_again (cmd.Reregister s) v = by_form (cmd.Reregister s) cmd.Reregister refl refl refl (v, tt)
said_again (cmd.Final d) v = by_form (cmd.Final d) cmd.Final refl refl refl (v, tt)
said_again (cmd.Collect n) v = by_form (cmd.Collect n) cmd.Collect refl refl refl (v, tt)
said_again (cmd.HNew d make t) v = record {
  word = refl;
  after = (v.0, (v.1, (v.2, extra_in make v.1)));
  said = hnew_again d t v.0 v.2 make v.1;
}
said_again (cmd.HGet d s) v = by_form (cmd.HGet d s) cmd.HGet refl refl refl (v.0, (v.1, tt))
said_again (cmd.HSet s t) v = by_form (cmd.HSet s t) cmd.HSet refl refl refl (v.0, (v.1, tt))
said_again (cmd.HSec h s) v = by_form (cmd.HSec h s) cmd.HSec refl refl refl (v.0, (v.1, tt))
said_again (cmd.HDep d s) v = by_form (cmd.HDep d s) cmd.HDep refl refl refl (v.0, (v.1, tt))
said_again (cmd.HVar s x) v = by_form (cmd.HVar s x) cmd.HVar refl refl refl (v, (tt, tt))
said_again (cmd.HFree s) v = by_form (cmd.HFree s) cmd.HFree refl refl refl (v, tt)
said_again (cmd.HPut k s) v = by_form (cmd.HPut k s) cmd.HPut refl refl refl (v.0, (v.1, tt))
said_again (cmd.HPick d k) v = by_form (cmd.HPick d k) cmd.HPick refl refl refl (v.0, (v.1, tt))
said_again (cmd.AddrOf s) v = by_form (cmd.AddrOf s) cmd.AddrOf refl refl refl (v, tt)
said_again (cmd.HUp s) v = by_form (cmd.HUp s) cmd.HUp refl refl refl (v, tt)
said_again (cmd.HDown s) v = by_form (cmd.HDown s) cmd.HDown refl refl refl (v, tt)
said_again (cmd.Trim x) v = by_form (cmd.Trim x) cmd.Trim refl refl refl (v, tt)
said_again (cmd.CAdd k x) v = by_form (cmd.CAdd k x) cmd.CAdd refl refl refl (v.0, (v.1, tt))
said_again (cmd.CFind d k) v = by_form (cmd.CFind d k) cmd.CFind refl refl refl (v.0, (v.1, tt))
said_again (cmd.CRemove k) v = by_form (cmd.CRemove k) cmd.CRemove refl refl refl (v, tt)
said_again (cmd.GcRoot s) v = by_form (cmd.GcRoot s) cmd.GcRoot refl refl refl (v, tt)

-- ---- the words as words of a line

pub literal : (word : List ℕ) → (ltb 0 (length word) && list_all is_high word) ≡ true → IsWord word
literal word is =
    let both = and_parts (ltb 0 (length word)) (list_all is_high word) is in
    record { some = ltb-true 0 (length word) both.0; high = both.1 }

pub numeral : (n : ℕ) → n < 2 ^ 64 → IsWord (decimal n)
numeral n h = record { some = decimal_nonempty n h; high = digit_bytes 36 (omega arith) n h }

-- a letter or mark and a number
pub marked : (mark d : ℕ) → is_high mark ≡ true → d < 2 ^ 64 → IsWord (mark ∷ decimal d)
marked mark d high h = record {
  some = omega arith;
  high = and_from (is_high mark) (list_all is_high (decimal d)) high (digit_bytes 36 (omega arith) d h);
}

strength_is : (s : Strength) → IsWord (strength_word s)
strength_is strength.Short = literal (codes "short") refl
strength_is strength.Long = literal (codes "long") refl
strength_is strength.Strong = literal (codes "strong") refl
strength_is strength.Pinned = literal (codes "pinned") refl

kind_is : (k : Kind) → IsWord (kind_name k)
kind_is kind.Short = literal (codes "short") refl
kind_is kind.Long = literal (codes "long") refl
kind_is kind.Strong = literal (codes "strong") refl
kind_is kind.Pinned = literal (codes "pinned") refl
kind_is kind.Variable = literal (codes "var") refl
kind_is kind.Counted = literal (codes "ref") refl
kind_is kind.Dependent = literal (codes "dep") refl

-- a word in its range is a word of a line
word_is : (w : Word) → IsInRange w → IsWord (word_text w)
word_is (object d) h = marked 114 d refl (omega (arith, h))
word_is (handle d) h = marked 104 d refl (omega (arith, h))
word_is (index k) h = numeral k (omega (arith, h))
word_is (field i) h = numeral i (omega (arith, h))
word_is (field_count n) h = numeral n (omega (arith, h))
word_is (number n) h = numeral n h
word_is (generation n) h = numeral n (omega (arith, h))
word_is (makes m) h = kind_is (kind_of m)
word_is (plain_kind k) h = kind_is k
word_is (of_strength s) h = strength_is s
word_is registered h = literal (codes "fin") refl

words_are : (ws : List Word) → AllInRange ws → AreWords (map word_text ws)
words_are [] h = tt
words_are (w ∷ ws) h = (word_is w h.0, words_are ws h.1)

-- ---- the line

-- a line of words that are read as a command is the script of that command
script_again : (words : List (List ℕ)) (c : Cmd) → AreWords words → reading_of words ≡ Some (command c)
    → script_of (join_with_byte 32 words ++ 10 ∷ []) ≡ Ok ((c ∷ []) ∷ [])
unfolding script_of readings_of lists_of reading_of
script_again [] c ws said = absurd cc
script_again (word ∷ words) c ws said =
    let text = join_with_byte 32 (word ∷ words) in
    let readings : readings_of (text ++ 10 ∷ []) ≡ Some (command c) ∷ [] =
    ap (map (λ (line : List ℕ). reading_of (words_of line))) (line_again word words ws.0 ws.1)
    ∙ ap (λ (found : List (List ℕ)). reading_of found ∷ []) (words_again word words ws.0 ws.1)
    ∙ ap (λ (r : Option Reading). r ∷ []) said in
    ap (λ (rs : List (Option Reading)). unless_fault (first_fault 1 0 rs) (lists_of rs)) readings

pub command_again : (c : Cmd) → IsValid c → script_of (command_text c ++ 10 ∷ []) ≡ Ok ((c ∷ []) ∷ [])
command_again c v =
    let s : IsSaid c = said_again c v in
    script_again (command_words c) c (literal (row_of c).word s.word, words_are (words_after c) s.after)
    s.said
