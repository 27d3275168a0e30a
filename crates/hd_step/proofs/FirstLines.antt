-- The first line end in bytes that grow, and what a source gave for them.
use Rattle.std.proofs.Common.{inl, position, MatchOption, ◌≡◌, ◌≤◌, ◌<◌, ◌+◌, ℕ, Bool, true, false, not, cond, List, [], ◌∷◌, ◌++◌, length, drop, Option, Some, None, refl, sym, ap, subst, ◌∙◌, arith, suc, ltb, ltb-true, ltb-false, length-append, append_assoc, append-nil}
use Rattle.std.proofs.KnownBytes.{Consumes-nil}
use Rattle.std.proofs.lemmas.Bool.{le-ltb, lt-ltb, cond-true, cond-false}
use Rattle.std.proofs.lemmas.Option.{none-some, same_Some}
use Rattle.std.specs.List.{position_or_len}
use Rattle.hd_io.proofs.SourceBytes.{gave_more}
use Rattle.hd_io.specs.Source.{SourceView, Gave, GaveCount, ReadFailed, ReadBrokeOff}
use Rattle.hd_model.specs.Grammar.{is_line_end}
use Rattle.hd_step.specs.{Hand.Hand, Inside.Filled, Inside.IsFirst}

-- the index of the first byte that ends a line, or the length
abbrev pub end_or_len : List ℕ → ℕ
end_or_len bytes = position_or_len is_line_end bytes

-- behind bytes none of which ends a line
behind : (xs ys : List ℕ) → length xs ≤ end_or_len xs → end_or_len (xs ++ ys) ≡ length xs + end_or_len ys
behind [] ys none = omega arith
behind (x ∷ xs) ys none =
    by (is_line_end x) (behind xs ys) none
  where
    by : (t : Bool) → (length xs ≤ end_or_len xs → end_or_len (xs ++ ys) ≡ length xs + end_or_len ys)
        → suc (length xs) ≤ cond (not t) (1 + end_or_len xs) 0
        → cond (not t) (1 + end_or_len (xs ++ ys)) 0 ≡ suc (length xs) + end_or_len ys
    by true later past = absurd (omega (arith, past))
    by false later past = let more = later (omega (arith, past)) in omega (arith, more)

pub none_found : (xs : List ℕ) → position is_line_end xs ≡ None → length xs ≤ end_or_len xs
none_found xs is = by (ltb (end_or_len xs) (length xs)) refl is
  where
    by : (t : Bool) → ltb (end_or_len xs) (length xs) ≡ t → cond t (Some (end_or_len xs)) None ≡ None
        → length xs ≤ end_or_len xs
    by true within same = absurd (none-some (end_or_len xs) (sym same))
    by false past same = ltb-false (end_or_len xs) (length xs) past

pub some_found : (xs : List ℕ) (end : ℕ) → position is_line_end xs ≡ Some end
    → (end_or_len xs < length xs) × (end_or_len xs ≡ end)
some_found xs end is = by (ltb (end_or_len xs) (length xs)) refl is
  where
    by : (t : Bool) → ltb (end_or_len xs) (length xs) ≡ t → cond t (Some (end_or_len xs)) None ≡ Some end
        → (end_or_len xs < length xs) × (end_or_len xs ≡ end)
    by true within same =
        (ltb-true (end_or_len xs) (length xs) within, same_Some (end_or_len xs) end same)
    by false past same = absurd (none-some end same)

module _ (xs ys : List ℕ) (unended : position is_line_end xs ≡ None) where
  at_end : end_or_len (xs ++ ys) ≡ length xs + end_or_len ys
  at_end = behind xs ys (none_found xs unended)

  pub none_more : position is_line_end ys ≡ None → position is_line_end (xs ++ ys) ≡ None
  none_more none =
      let far = none_found ys none in
      cond-false (ltb (end_or_len (xs ++ ys)) (length (xs ++ ys))) (Some (end_or_len (xs ++ ys))) None
      (le-ltb (end_or_len (xs ++ ys)) (length (xs ++ ys)) (omega (arith, far, at_end, length-append xs ys)))

  pub some_more : (end : ℕ) → position is_line_end ys ≡ Some end
      → position is_line_end (xs ++ ys) ≡ Some (length xs + end)
  some_more end some =
      let found = some_found ys end some in
      cond-true (ltb (end_or_len (xs ++ ys)) (length (xs ++ ys))) (Some (end_or_len (xs ++ ys))) None
      (lt-ltb (end_or_len (xs ++ ys)) (length (xs ++ ys))
      (omega (arith, found.0, at_end, length-append xs ys)))
      ∙ ap (λ (n : ℕ). Some n) (at_end ∙ ap (λ (n : ℕ). length xs + n) found.1)

pub gave_none : (a : SourceView) → Gave a a []
gave_none a = record { consumed = Consumes-nil a.left; counted = inl (omega arith); unfailed = refl }

pub filled_none : (h : Hand) (a : SourceView) → Filled h h a a
filled_none h a = record {
  read = [];
  gave = gave_none a;
  hand = sym (append-nil h.bytes);
  room = omega arith;
}

pub filled_more : (g h k : Hand) (a b c : SourceView) → Filled g h a b → Filled h k b c → Filled g k a c
filled_more g h k a b c first then = record {
  read = first.read ++ then.read;
  gave = gave_more a b c first.read then.read first.gave then.gave;
  hand = then.hand ∙ ap (λ (l : List ℕ). l ++ then.read) first.hand
      ∙ append_assoc g.bytes first.read then.read;
  room = omega (arith, first.room, then.room, length-append first.read then.read);
}

-- where the source gave more after what is at hand
module _ (g h : Hand) (a b c : SourceView) (first : Filled g h a b) where
  pub count_more : (IsCount Whole : ℕ → Type 0)
      → ((n : ℕ) → IsCount n → Whole (length first.read + n)) → GaveCount b c IsCount → GaveCount a c Whole
  count_more IsCount Whole fits then = record {
    bytes = first.read ++ then.bytes;
    gave = gave_more a b c first.read then.bytes first.gave then.gave;
    count = subst Whole (sym (length-append first.read then.bytes)) (fits (length then.bytes) then.count);
  }

  pub too_long_more : GaveCount b c (λ n. n ≡ h.room + 1) → GaveCount a c (λ n. n ≡ g.room + 1)
  too_long_more then =
      count_more (λ n. n ≡ h.room + 1) (λ n. n ≡ g.room + 1) (λ n is. omega (arith, is, first.room)) then

  pub memory_more : GaveCount b c (λ n. n ≤ h.room) → GaveCount a c (λ n. n ≤ g.room)
  memory_more then =
      count_more (λ n. n ≤ h.room) (λ n. n ≤ g.room) (λ n is. omega (arith, is, first.room)) then

  pub broke_more : ReadFailed b c → ReadBrokeOff a c g.room
  broke_more failed = record {
    before = b;
    gave = record { bytes = first.read; gave = first.gave; count = omega (arith, first.room) };
    failed = failed;
  }

module _ (g h : Hand) (a b : SourceView) (first : Filled g h a b) where
  -- the bytes at hand are those from before and what was read
  pub drop_had : (had : ℕ) → had ≡ length g.bytes → drop had h.bytes ≡ first.read
  drop_had had is = rw (is, first.hand) (drop_front g.bytes first.read)
    where
      drop_front : (xs ys : List ℕ) → drop (length xs) (xs ++ ys) ≡ ys
      drop_front [] ys = refl
      drop_front (x ∷ xs) ys = drop_front xs ys

  -- the first line end is in what was read, or there is none
  module _ (unended : position is_line_end g.bytes ≡ None) (had : ℕ) (all : had ≡ length g.bytes) where
    pub first_behind : (end : ℕ) → Some end ≡ position is_line_end (drop had h.bytes)
        → IsFirst h (had + end + 1)
    first_behind end is =
        let read_is : position is_line_end first.read ≡ Some end =
        sym (is ∙ ap (position is_line_end) (drop_had had all)) in
        let whole : position is_line_end h.bytes ≡ Some (had + end) =
        ap (position is_line_end) first.hand ∙ some_more g.bytes first.read unended end read_is
        ∙ ap (λ (n : ℕ). Some (n + end)) (sym all) in
        subst (λ (o : Option ℕ). MatchOption o ((h.ended ≡ true) × (had + end + 1 ≡ length h.bytes))
        (λ e. had + end + 1 ≡ e + 1)) (sym whole) refl

    pub none_behind : None ≡ position is_line_end (drop had h.bytes) → position is_line_end h.bytes ≡ None
    none_behind is =
        ap (position is_line_end) first.hand
        ∙ none_more g.bytes first.read unended (sym (is ∙ ap (position is_line_end) (drop_had had all)))
