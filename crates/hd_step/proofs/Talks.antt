-- A dialogue from its first line to its last.
use Rattle.std.proofs.Common.{◌≡◌, ℕ, ◌+◌, ◌<◌, ◌≤◌, Bool, true, false, not, cond, List, [], ◌∷◌, ◌++◌, map, length, take, drop, position, Option, Some, None, MatchOption, Err, IsErrOf, refl, sym, ap, subst, ◌∙◌, ⊎_elim, inl, inr, append-nil, append_assoc, arith, zero, suc, length-append, take_all}
use Rattle.std.proofs.lemmas.List.{drop_all, drop-append-le, take-append-le}
use Rattle.std.specs.List.{before_first}
use Rattle.std.specs.Io.KnownBytes.{IsAtEnd}
use Rattle.hd_io.proofs.SinkPieces.{took_none, took_more, broke_after}
use Rattle.hd_io.proofs.SourceBytes.{gave_more}
use Rattle.hd_io.specs.Sink.{SinkView, Took, WriteBrokeOff}
use Rattle.hd_io.specs.Source.{SourceView, GaveAll, GaveCount, ReadBrokeOff}
use Rattle.hd_io.specs.declared.source.ReadFault.{ReadFault}
use Rattle.hd_io.specs.declared.source.ReadFault.TheVariants as fault
use Rattle.hd_model.specs.declared.limits.TheConstants.{CALLERS, MOST_BYTES}
use Rattle.hd_model.specs.FullText.{end_of}
use Rattle.hd_model.specs.Grammar.{is_line_end, lines_in, words_of}
use Rattle.hd_model.specs.State.{Numbers}
use Rattle.hd_model.specs.Run.{Run, stay}
use Rattle.hd_model.specs.Text.{lines_of}
use Rattle.hd_script.proofs.LineSplit.{first_line, line_after_is}
use Rattle.hd_script.specs.Words.{line_after, words_at}
use Rattle.hd_step.specs.declared.progress.Progress.{Progress}
use Rattle.hd_step.specs.declared.stop.Stop.{Stop}
use Rattle.hd_step.specs.declared.stop.Stop.TheVariants as stop
use Rattle.hd_step.specs.Dialogue.{Exchange, IsOfRun, lines_of_all, text_of_all, turn_of}
use Rattle.hd_step.specs.Ending.{AreFirst, Conversed, Replied, StoppedIn}
use Rattle.hd_step.specs.{Inside.Filled, Inside.IsFirst, Hand.Hand}
use Rattle.hd_step.specs.Inside.{AfterWords, AreCounts, LineStopped, stop_of}
use Rattle.hd_step.specs.Machine.{IsNew, MachineView}
use Rattle.hd_step.specs.Inside.{IsOver}
use Rattle.hd_step.proofs.LineSteps.{HasDoneLines}
use Rattle.hd_step.proofs.Exchanges.{all_lines_push, text_push}
use Rattle.hd_step.proofs.FirstLines.{end_or_len, gave_none, none_found, some_found}
use Rattle.hd_step.proofs.LineSteps.{line_done}
use Rattle.hd_io.specs.Source.{Gave}

-- the bytes of the source so far are those lines, and then those at hand
pub record HasRead (lines : List (List ℕ)) (h : Hand) (before after : SourceView) : Type 0 where
  pub bytes : List ℕ
  pub gave : Gave before after bytes
  pub room : h.room + length bytes ≡ MOST_BYTES
  pub cut : (rest : List ℕ) → (h.ended ≡ true → rest ≡ [])
      → lines_in (bytes ++ rest) ≡ lines ++ lines_in (h.bytes ++ rest)
  pub end : h.ended ≡ true → IsAtEnd after.left

-- within a dialogue, between two lines
pub record IsTalking (A : MachineView → List (List ℕ) → List ℕ → Type 0) (F : List (List ℕ) → Type 0) (n : Numbers)
    (h : Hand) (w : MachineView) (p : Progress) (source after : SourceView) (out new : SinkView) : Type 0 where
  pub exchanges : List Exchange
  pub done : HasDoneLines A F n exchanges w p
  pub read : HasRead (lines_of_all exchanges) h source after
  pub wrote : Took out new (text_of_all exchanges)

-- ---- the first line

-- behind the first line end nothing shows where it is
ahead : (xs ys : List ℕ) → end_or_len xs < length xs → end_or_len (xs ++ ys) ≡ end_or_len xs
ahead [] ys within = absurd (omega (arith, within))
ahead (x ∷ xs) ys within = by (is_line_end x) (ahead xs ys) within
  where
    by : (t : Bool) → (end_or_len xs < length xs → end_or_len (xs ++ ys) ≡ end_or_len xs)
        → cond (not t) (1 + end_or_len xs) 0 < suc (length xs)
        → cond (not t) (1 + end_or_len (xs ++ ys)) 0 ≡ cond (not t) (1 + end_or_len xs) 0
    by true later past = refl
    by false later past = ap (λ (k : ℕ). 1 + k) (later (omega (arith, past)))

end_in_take : (xs : List ℕ) (k : ℕ) → end_or_len xs < k → end_or_len (take k xs) ≡ end_or_len xs
end_in_take xs zero within = absurd (omega (arith, within))
end_in_take [] (suc k) within = refl
end_in_take (x ∷ xs) (suc k) within = by (is_line_end x) (end_in_take xs k) within
  where
    by : (t : Bool) → (end_or_len xs < k → end_or_len (take k xs) ≡ end_or_len xs)
        → cond (not t) (1 + end_or_len xs) 0 < suc k
        → cond (not t) (1 + end_or_len (take k xs)) 0 ≡ cond (not t) (1 + end_or_len xs) 0
    by true later past = refl
    by false later past = ap (λ (j : ℕ). 1 + j) (later (omega (arith, past)))

take_take : (xs : List ℕ) (j k : ℕ) → j ≤ k → take j (take k xs) ≡ take j xs
take_take xs zero k within = refl
take_take [] (suc j) zero within = refl
take_take [] (suc j) (suc k) within = refl
take_take (x ∷ xs) (suc j) zero within = absurd (omega (arith, within))
take_take (x ∷ xs) (suc j) (suc k) within =
    ap (λ (l : List ℕ). x ∷ l) (take_take xs j k (omega (arith, within)))

-- the line that the first n bytes are, without its end
abbrev line_in : List ℕ → ℕ → List ℕ
line_in bytes n = before_first is_line_end (take n bytes)

-- a line with its end, whatever follows
module _ (bytes rest : List ℕ) (end : ℕ) (is : position is_line_end bytes ≡ Some end) where
  within : end_or_len bytes < length bytes
  within = (some_found bytes end is).0

  end_is : end_or_len bytes ≡ end
  end_is = (some_found bytes end is).1

  whole_end : end_or_len (bytes ++ rest) ≡ end
  whole_end = ahead bytes rest within ∙ end_is

  line_is : before_first is_line_end (bytes ++ rest) ≡ line_in bytes (end + 1)
  line_is =
      ap (λ (k : ℕ). take k (bytes ++ rest)) whole_end
      ∙ take-append-le end bytes rest (omega (arith, within, end_is))
      ∙ sym (take_take bytes end (end + 1) (omega arith))
      ∙ ap (λ (k : ℕ). take k (take (end + 1) bytes))
      (sym (end_in_take bytes (end + 1) (omega (arith, end_is)) ∙ end_is))

  rest_is : line_after (bytes ++ rest) ≡ drop (end + 1) bytes ++ rest
  rest_is =
      line_after_is (bytes ++ rest) ∙ ap (λ (k : ℕ). drop (k + 1) (bytes ++ rest)) whole_end
      ∙ drop-append-le (end + 1) bytes rest (omega (arith, within, end_is))

  cut_with_end : lines_in (bytes ++ rest) ≡ line_in bytes (end + 1) ∷ lines_in (drop (end + 1) bytes ++ rest)
  cut_with_end =
      first_line (bytes ++ rest) (omega (arith, within, length-append bytes rest))
      ∙ ap (λ (l : List ℕ). l ∷ lines_in (line_after (bytes ++ rest))) line_is
      ∙ ap (λ (l : List ℕ). line_in bytes (end + 1) ∷ lines_in l) rest_is

-- the last line without an end
cut_last : (bytes : List ℕ) → position is_line_end bytes ≡ None → 0 < length bytes
    → lines_in (bytes ++ []) ≡ line_in bytes (length bytes) ∷ lines_in (drop (length bytes) bytes ++ [])
cut_last bytes none some =
    let far = none_found bytes none in
    let nothing : line_after bytes ≡ drop (length bytes) bytes ++ [] =
    line_after_is bytes ∙ drop_all (end_or_len bytes + 1) bytes (omega (arith, far))
    ∙ sym (append-nil (drop (length bytes) bytes) ∙ drop_all (length bytes) bytes (omega arith)) in
    ap lines_in (append-nil bytes) ∙ first_line bytes some
    ∙ ap (λ (l : List ℕ). before_first is_line_end l ∷ lines_in (line_after bytes))
    (sym (take_all (length bytes) bytes (omega arith)))
    ∙ ap (λ (l : List ℕ). line_in bytes (length bytes) ∷ lines_in l) nothing

first_cut : (h : Hand) (n : ℕ) → IsFirst h n → 0 < n → (rest : List ℕ) → (h.ended ≡ true → rest ≡ [])
    → lines_in (h.bytes ++ rest) ≡ line_in h.bytes n ∷ lines_in (drop n h.bytes ++ rest)
first_cut h n first some rest last = by (position is_line_end h.bytes) refl first
  where
    by : (o : Option ℕ) → position is_line_end h.bytes ≡ o
        → MatchOption o ((h.ended ≡ true) × (n ≡ length h.bytes)) (λ end. n ≡ end + 1)
        → lines_in (h.bytes ++ rest) ≡ line_in h.bytes n ∷ lines_in (drop n h.bytes ++ rest)
    by (Some end) is n_is =
        subst (λ k. lines_in (h.bytes ++ rest) ≡ line_in h.bytes k ∷ lines_in (drop k h.bytes ++ rest))
        (sym n_is) (cut_with_end h.bytes rest end is)
    by None is both =
        subst (λ r. lines_in (h.bytes ++ r) ≡ line_in h.bytes n ∷ lines_in (drop n h.bytes ++ r))
        (sym (last both.0))
        (subst (λ k. lines_in (h.bytes ++ []) ≡ line_in h.bytes k ∷ lines_in (drop k h.bytes ++ []))
        (sym both.1) (cut_last h.bytes is (omega (arith, some, both.1))))

-- ---- what was read

nil_of : (xs : List ℕ) → length xs ≡ 0 → xs ≡ []
nil_of [] is = refl
nil_of (x ∷ xs) is = absurd (omega (arith, is))

not_both : (t : Bool) → t ≡ true → t ≡ false → ⊥
not_both t is is_not = grind (arith, is, is_not)

read_none : (a : SourceView) → HasRead [] (record { bytes = []; room = MOST_BYTES; ended = false }) a a
read_none a = record {
  bytes = [];
  gave = gave_none a;
  room = omega arith;
  cut = λ rest last. refl;
  end = λ is. absurd (not_both false is refl);
}

module _ {ls : List (List ℕ)} {h : Hand} {a b : SourceView} (r : HasRead ls h a b) where
  -- more is at hand
  pub read_more : (k : Hand) (c : SourceView) → Filled h k b c → (h.ended ≡ true → (k ≡ h) × (c ≡ b))
      → (h.ended ≡ false → k.ended ≡ true → IsAtEnd c.left) → HasRead ls k a c
  read_more k c f still ends = record {
    bytes = r.bytes ++ f.read;
    gave = gave_more a b c r.bytes f.read r.gave f.gave;
    room = omega (arith, r.room, f.room, length-append r.bytes f.read);
    cut = λ rest last.
        ap lines_in (append_assoc r.bytes f.read rest)
        ∙ r.cut (f.read ++ rest)
        (λ at. nothing at rest (last (ap (λ (x : Hand). x.ended) (still at).0 ∙ at)))
        ∙ ap (λ (l : List ℕ). ls ++ lines_in l)
        (sym (append_assoc h.bytes f.read rest) ∙ ap (λ (l : List ℕ). l ++ rest) (sym f.hand));
    end = by h.ended refl;
  }
    where
      nothing : h.ended ≡ true → (rest : List ℕ) → rest ≡ [] → f.read ++ rest ≡ []
      nothing ended rest none =
          let same : h.bytes ≡ h.bytes ++ f.read =
          ap (λ (x : Hand). x.bytes) (sym (still ended).0) ∙ f.hand in
          let short = ap (λ (l : List ℕ). length l) same in
          ap (λ (l : List ℕ). f.read ++ l) none ∙ append-nil f.read
          ∙ nil_of f.read (omega (arith, short, length-append h.bytes f.read))

      by : (t : Bool) → h.ended ≡ t → k.ended ≡ true → IsAtEnd c.left
      by true is ended = subst (λ (v : SourceView). IsAtEnd v.left) (sym (still is).1) (r.end is)
      by false is ended = ends is ended

  -- a line is taken
  pub read_line : (n : ℕ) → IsFirst h n → 0 < n
      → HasRead (ls ++ line_in h.bytes n ∷ []) (record h { bytes = drop n h.bytes }) a b
  read_line n first some = record {
    bytes = r.bytes;
    gave = r.gave;
    room = r.room;
    cut = λ rest last. r.cut rest last
        ∙ ap (λ (l : List (List ℕ)). ls ++ l) (first_cut h n first some rest last)
        ∙ sym (append_assoc ls (line_in h.bytes n ∷ []) (lines_in (drop n h.bytes ++ rest)));
    end = r.end;
  }

  pub first_taken : (n : ℕ) → IsFirst h n → 0 < n
      → (rest : List (List ℕ)) × (lines_in r.bytes ≡ (ls ++ line_in h.bytes n ∷ []) ++ rest)
  first_taken n first some = (
    lines_in (drop n h.bytes ++ []),
    ap lines_in (sym (append-nil r.bytes)) ∙ r.cut [] (λ ended. refl)
        ∙ ap (λ (l : List (List ℕ)). ls ++ l) (first_cut h n first some [] (λ ended. refl))
        ∙ sym (append_assoc ls (line_in h.bytes n ∷ []) (lines_in (drop n h.bytes ++ []))),
  )

  -- no byte is left
  at_last : IsFirst h 0 → (h.ended ≡ true) × (h.bytes ≡ [])
  at_last first = by (position is_line_end h.bytes) first
    where
      by : (o : Option ℕ) → MatchOption o ((h.ended ≡ true) × (0 ≡ length h.bytes)) (λ end. 0 ≡ end + 1)
          → (h.ended ≡ true) × (h.bytes ≡ [])
      by (Some end) is = absurd (omega (arith, is))
      by None both = (both.0, nil_of h.bytes (sym both.1))

  pub read_all : IsFirst h 0 → GaveAll a b r.bytes × (lines_in r.bytes ≡ ls)
  unfolding lines_in
  read_all first =
      let last = at_last first in (
        record { gave = r.gave; end = r.end last.0 },
        ap lines_in (sym (append-nil r.bytes)) ∙ r.cut [] (λ ended. refl)
            ∙ ap (λ (l : List ℕ). ls ++ lines_in (l ++ [])) last.1 ∙ append-nil ls,
      )

  -- the lines that were taken are the first, whatever is read besides
  pub first_of : (more : List ℕ) → (h.ended ≡ true → more ≡ []) → (rest : List (List ℕ))
      × (lines_in (r.bytes ++ more) ≡ ls ++ rest)
  first_of more last = (lines_in (h.bytes ++ more), r.cut more last)

  pub first_now : (rest : List (List ℕ)) × (lines_in r.bytes ≡ ls ++ rest)
  first_now = (lines_in (h.bytes ++ []), ap lines_in (sym (append-nil r.bytes)) ∙ r.cut [] (λ ended. refl))

  pub few_read : length r.bytes ≤ MOST_BYTES
  few_read = omega (arith, r.room)

  abbrev read_now : GaveCount a b (λ count. count ≤ MOST_BYTES)
  read_now = record { bytes = r.bytes; gave = r.gave; count = few_read }

  -- not all was read
  abbrev read_count : (c : SourceView) (IsCount Whole : ℕ → Type 0)
      → ((n : ℕ) → IsCount n → Whole (length r.bytes + n)) → GaveCount b c IsCount → GaveCount a c Whole
  read_count c IsCount Whole fits then = record {
    bytes = r.bytes ++ then.bytes;
    gave = gave_more a b c r.bytes then.bytes r.gave then.gave;
    count = subst Whole (sym (length-append r.bytes then.bytes)) (fits (length then.bytes) then.count);
  }

  abbrev read_broke : (c : SourceView) → ReadBrokeOff b c h.room → ReadBrokeOff a c MOST_BYTES
  read_broke c broke = record {
    before = broke.before;
    gave = read_count broke.before (λ n. n ≤ h.room) (λ n. n ≤ MOST_BYTES)
        (λ n is. omega (arith, is, r.room)) broke.gave;
    failed = broke.failed;
  }

  abbrev read_long : (c : SourceView) → GaveCount b c (λ n. n ≡ h.room + 1)
      → GaveCount a c (λ n. n ≡ MOST_BYTES + 1)
  read_long c long =
      read_count c (λ n. n ≡ h.room + 1) (λ n. n ≡ MOST_BYTES + 1) (λ n is. omega (arith, is, r.room)) long

  abbrev read_short : (c : SourceView) → GaveCount b c (λ n. n ≤ h.room) → GaveCount a c (λ n. n ≤ MOST_BYTES)
  read_short c short =
      read_count c (λ n. n ≤ h.room) (λ n. n ≤ MOST_BYTES) (λ n is. omega (arith, is, r.room)) short

-- ---- the dialogue

module _ (A : MachineView → List (List ℕ) → List ℕ → Type 0) (F : List (List ℕ) → Type 0)
    {w : MachineView} {p : Progress} (new : IsNew w) (first : p.caller ≡ 0)
    (slots : length p.counts ≡ CALLERS) (counts : AreCounts [] p.counts) (good : p.is_bad ≡ false) where
  none_done : HasDoneLines A F w.numbers [] w p
  none_done = record {
    ready = record {
      callers = new.callers;
      caller = omega (arith, first);
      slots = slots;
      counts = subst (λ j. AreCounts j p.counts) (sym new.empty) counts;
      room = ap (λ j. w.spare + length j) new.empty ∙ omega (arith, new.room);
    };
    ran = record {
      numbers = refl;
      run = run;
      turns = ap (map turn_of) new.empty;
      text = sym (ap lines_of new.empty);
      answered = λ k within. absurd (omega (arith, within));
      throughout = λ k. subst (IsOfRun A F w.numbers) (sym (take_all k [] (omega arith))) (record {
        journal = w.journal;
        state = w.state;
        run = run;
        turns = ap (map turn_of) new.empty;
        text = sym (ap lines_of new.empty);
        answered = λ k within. absurd (omega (arith, within));
      });
    };
    caller = sym first;
    bad = (
      λ is. absurd (not_both p.is_bad is good),
      λ has. ⊎_elim (λ out. absurd (not_both false out refl)) (λ one. absurd (omega (arith, one.1.1))) has,
    );
  }
    where
      run : Run w.numbers w.journal w.state
      run = subst (λ j. Run w.numbers j w.state) (sym new.empty)
          (subst (λ s. Run w.numbers [] s) (sym new.state) stay)

  pub begun : (h : Hand) → h ≡ record { bytes = []; room = MOST_BYTES; ended = false } → (a : SourceView)
      (o : SinkView) → IsTalking A F w.numbers h w p a a o o
  begun h is a o = record {
    exchanges = [];
    done = none_done;
    read = subst (λ (k : Hand). HasRead [] k a a) (sym is) (read_none a);
    wrote = took_none o;
  }

words_of_line : (bytes : List ℕ) → words_at bytes ≡ words_of (before_first is_line_end bytes)
unfolding words_at
words_of_line bytes = refl

module _ {A : MachineView → List (List ℕ) → List ℕ → Type 0} {F : List (List ℕ) → Type 0}
    {n : Numbers} {h : Hand} {w : MachineView} {p : Progress} {a b : SourceView} {o u : SinkView}
    (t : IsTalking A F n h w p a b o u) where
  -- more was read
  pub found : (k : Hand) (c : SourceView) → Filled h k b c → (h.ended ≡ true → (k ≡ h) × (c ≡ b))
      → (h.ended ≡ false → k.ended ≡ true → IsAtEnd c.left) → IsTalking A F n k w p a c o u
  found k c f still ends = record {
    exchanges = t.exchanges;
    done = t.done;
    read = read_more t.read k c f still ends;
    wrote = t.wrote;
  }

  -- the number of a line is nothing that replies depend on
  pub numbered : (lines : ℕ) → IsTalking A F n h w (record p { lines = lines }) a b o u
  numbered lines = record {
    exchanges = t.exchanges;
    done = record {
      ready = record {
        callers = t.done.ready.callers;
        caller = t.done.ready.caller;
        slots = t.done.ready.slots;
        counts = t.done.ready.counts;
        room = t.done.ready.room;
      };
      ran = t.done.ran;
      caller = t.done.caller;
      bad = t.done.bad;
    };
    read = t.read;
    wrote = t.wrote;
  }

  -- one line more was done
  module _ (m : ℕ) (line : List ℕ) (v : MachineView) (q : Progress) (first : IsFirst h m) (some : 0 < m)
      (line_is : line ≡ take m h.bytes) (text : List ℕ) (after : AfterWords A F (words_at line) w v p q text) where
    abbrev exchange : Exchange
    exchange = record { line = line_in h.bytes m; text = text }

    abbrev more : List Exchange
    more = t.exchanges ++ exchange ∷ []

    more_done : HasDoneLines A F n more v q
    more_done =
        line_done t.done exchange v q
        (subst (λ (l : List (List ℕ)). AfterWords A F l w v p q text)
        (ap words_at line_is ∙ words_of_line (take m h.bytes)) after)

    more_read : HasRead (lines_of_all more) (record h { bytes = drop m h.bytes }) a b
    more_read =
        subst (λ l. HasRead l (record h { bytes = drop m h.bytes }) a b)
        (sym (all_lines_push t.exchanges exchange)) (read_line t.read m first some)

    pub taken : (x : SinkView) → Took u x text → (k : Hand) → k ≡ record h { bytes = drop m h.bytes }
        → IsTalking A F n k v q a b o x
    taken x took k is = record {
      exchanges = more;
      done = more_done;
      read = subst (λ (j : Hand). HasRead (lines_of_all more) j a b) (sym is) more_read;
      wrote = subst (Took o x) (sym (text_push t.exchanges exchange))
          (took_more o u x (text_of_all t.exchanges) text t.wrote took);
    }

    more_first : AreFirst t.read.bytes more
    more_first =
        subst (λ (l : List (List ℕ)). (rest : List (List ℕ)) × (lines_in t.read.bytes ≡ l ++ rest))
        (sym (all_lines_push t.exchanges exchange)) (first_taken t.read m first some)

    -- a write of its text failed
    write_stopped : (x : SinkView) → WriteBrokeOff u x text → StoppedIn A F n a b o x stop.Unwritten
    write_stopped x broke = (
      read_now t.read,
      record {
        exchanges = t.exchanges;
        throughout = t.done.ran.throughout;
        text = text;
        next = inl (exchange, refl, more_first, more_done.ran.throughout);
        broke = broke_after o u x (text_of_all t.exchanges) text t.wrote broke;
      },
    )

  -- the last one was
  pub over : (m : ℕ) → m ≡ 0 → IsFirst h m → IsOver A F n a b o u w p.is_bad
  over m none first =
      let all = read_all t.read (subst (IsFirst h) none first) in
      record {
        exchanges = t.exchanges;
        bytes = t.read.bytes;
        read = all.0;
        within = few_read t.read;
        lines = all.1;
        ran = t.done.ran;
        is_bad = t.done.bad;
        wrote = t.wrote;
      }

  replied : (bytes : List ℕ) → AreFirst bytes t.exchanges → Replied A F n bytes o u
  replied bytes first = record {
    exchanges = t.exchanges;
    first = first;
    throughout = t.done.ran.throughout;
    wrote = t.wrote;
  }

  -- not all was read
  module _ (c : SourceView) (going : h.ended ≡ false) where
    replied_and : (more : List ℕ) → Replied A F n (t.read.bytes ++ more) o u
    replied_and more =
        replied (t.read.bytes ++ more) (first_of t.read more (λ ended. absurd (not_both h.ended ended going)))

    stopped_by : (f : ReadFault)
        → (IsErrOf {T = ℕ} (Err f) fault.Failed → ReadBrokeOff b c h.room)
        → (IsErrOf {T = ℕ} (Err f) fault.TooLong → GaveCount b c (λ m. m ≡ h.room + 1))
        → (IsErrOf {T = ℕ} (Err f) fault.Memory → GaveCount b c (λ m. m ≤ h.room))
        → StoppedIn A F n a c o u (stop_of f)
    stopped_by fault.Failed broke long short =
        (read_broke t.read c (broke refl), replied_and (broke refl).gave.bytes)
    stopped_by fault.TooLong broke long short = (read_long t.read c (long refl), replied_and (long refl).bytes)
    stopped_by fault.Memory broke long short = (read_short t.read c (short refl), replied_and (short refl).bytes)

    pub read_stopped : (f : ReadFault) (s : Stop) → s ≡ stop_of f
        → (IsErrOf {T = ℕ} (Err f) fault.Failed → ReadBrokeOff b c h.room)
        → (IsErrOf {T = ℕ} (Err f) fault.TooLong → GaveCount b c (λ m. m ≡ h.room + 1))
        → (IsErrOf {T = ℕ} (Err f) fault.Memory → GaveCount b c (λ m. m ≤ h.room))
        → StoppedIn A F n a c o u s
    read_stopped f s is broke long short =
        subst (StoppedIn A F n a c o u) (sym is) (stopped_by f broke long short)

  -- a line was not done to its end
  pub line_stopped : (m : ℕ) (line : List ℕ) (v : MachineView) (q : Progress) (x : SinkView) (s : Stop)
      → IsFirst h m → 0 < m → line ≡ take m h.bytes → LineStopped A F (words_at line) w v p q u x s
      → StoppedIn A F n a b o x s
  line_stopped m line v q x stop.Unread first some same_line none = absurd none
  line_stopped m line v q x stop.TooLong first some same_line none = absurd none
  line_stopped m line v q x stop.Memory first some same_line same =
      subst (λ (k : SinkView). StoppedIn A F n a b o k stop.Memory) (sym same)
      (read_now t.read, replied t.read.bytes (first_now t.read))
  line_stopped m line v q x stop.Unwritten first some same_line broke =
      write_stopped m line v q first some same_line broke.text broke.after x broke.broke

module _ {A : MachineView → List (List ℕ) → List ℕ → Type 0} {F : List (List ℕ) → Type 0}
    {n : Numbers} {w : MachineView} {a b : SourceView} {o u : SinkView} {bad : Bool}
    (i : IsOver A F n a b o u w bad) (x : SinkView) (end : List ℕ) (is : end ≡ end_of w.journal w.state) where
  abbrev whole : IsOfRun A F n i.exchanges
  whole = record {
    journal = w.journal;
    state = w.state;
    run = i.ran.run;
    turns = i.ran.turns;
    text = i.ran.text;
    answered = i.ran.answered;
  }

  -- the end line was written
  pub ended : Took u x end → Conversed A F n a b o x bad
  ended took = record {
    bytes = i.bytes;
    read = i.read;
    exchanges = i.exchanges;
    lines = i.lines;
    throughout = i.ran.throughout;
    whole = whole;
    wrote = subst (λ l. Took o x (text_of_all i.exchanges ++ l)) is
        (took_more o u x (text_of_all i.exchanges) end i.wrote took);
    is_bad = i.is_bad;
  }

  pub end_broke : WriteBrokeOff u x end → StoppedIn A F n a b o x stop.Unwritten
  end_broke broke = (
    record { bytes = i.bytes; gave = i.read.gave; count = i.within },
    record {
      exchanges = i.exchanges;
      throughout = i.ran.throughout;
      text = end;
      next = inr (i.read.end, i.lines, (whole, is));
      broke = broke_after o u x (text_of_all i.exchanges) end i.wrote broke;
    },
  )
