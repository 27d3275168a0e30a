-- How the pieces that a sink took compose.
use Rattle.std.proofs.Common.{◌≡◌, ◌-◌, ℕ, List, [], ◌++◌, ◌+◌, length, take, drop, Option, None, Some, Result, Ok, Err, OnErr, refl, sym, ◌∙◌, ap, subst, arith, append_assoc, append-nil, take_all, length-drop, take-append-drop, take-add}
use Rattle.hd_io.specs.Sink.{SinkView, Appends, Took, WriteFailed, WriteBrokeOff}

-- what holds may be stated of a call that failed, where it passes an error on
pub at_error : {T E P : Type 0} (r : Result T E) → P → OnErr r P
at_error (Ok x) holds = tt
at_error (Err e) holds = holds

appends_none : (w : Option (List ℕ)) → Appends w w []
appends_none None = tt
appends_none (Some xs) = sym (append-nil xs)

appends_more : (a b c : Option (List ℕ)) (p q : List ℕ) → Appends a b p → Appends b c q → Appends a c (p ++ q)
appends_more a b None p q first then = tt
appends_more a None (Some zs) p q first then = absurd then
appends_more None (Some ys) (Some zs) p q first then = absurd first
appends_more (Some xs) (Some ys) (Some zs) p q first then =
    then ∙ ap (λ v. v ++ q) first ∙ append_assoc xs p q

-- where nothing was done, nothing was taken
pub took_none : (a : SinkView) → Took a a []
took_none a = record { appended = appends_none a.written; unfailed = refl }

module _ (a b c : SinkView) (p q : List ℕ) where
  -- one piece and then another are the two as one
  pub took_more : Took a b p → Took b c q → Took a c (p ++ q)
  took_more first then = record {
    appended = appends_more a.written b.written c.written p q first.appended then.appended;
    unfailed = then.unfailed ∙ first.unfailed;
  }

  -- a write that broke off after a piece did so in the two as one
  pub broke_after : Took a b p → WriteBrokeOff b c q → WriteBrokeOff a c (p ++ q)
  broke_after first then = record {
    prefix = p ++ then.prefix;
    rest = then.rest;
    parts = ap (λ v. p ++ v) then.parts ∙ sym (append_assoc p then.prefix then.rest);
    before = then.before;
    took = record {
      appended = appends_more a.written b.written then.before.written p then.prefix first.appended
          then.took.appended;
      unfailed = then.took.unfailed ∙ first.unfailed;
    };
    failed = then.failed;
  }

  -- one that broke off in a piece did so with more after the piece
  pub broke_before : WriteBrokeOff a b p → WriteBrokeOff a b (p ++ q)
  broke_before broke = record {
    prefix = broke.prefix;
    rest = broke.rest ++ q;
    parts = ap (λ v. v ++ q) broke.parts ∙ append_assoc broke.prefix broke.rest q;
    before = broke.before;
    took = broke.took;
    failed = broke.failed;
  }

-- the same of a call that passes on what the second write returned
pub broke_after_at_error : {T E : Type 0} (r : Result T E) (a b c : SinkView) (p q : List ℕ) →
    Took a b p → OnErr r (WriteBrokeOff b c q) → OnErr r (WriteBrokeOff a c (p ++ q))
broke_after_at_error (Ok x) a b c p q first then = tt
broke_after_at_error (Err e) a b c p q first then = broke_after a b c p q first then

-- for a caller that writes pieces one after another
pub ruleset appending = (took_more, broke_before, broke_after, broke_after_at_error, at_error)

module _ (a b c : SinkView) (p : List ℕ) (n : ℕ) where
  -- the first n bytes of a piece and then the next m are the first n + m
  pub took_next : (m : ℕ) → Took a b (take n p) →
      Took b c (take m (take (length p - n) (drop n p))) → Took a c (take (n + m) p)
  took_next m first then =
      let rest = drop n p in
      let whole : take (length p - n) rest ≡ rest =
      take_all (length p - n) rest (omega (arith, length-drop n p)) in
      let next : Took b c (take m rest) = subst (λ v. Took b c (take m v)) whole then in
      subst (Took a c) (sym (take-add n m p)) (took_more a b c (take n p) (take m rest) first next)

  -- a write that failed after the first n bytes broke off
  pub broke_at : Took a b (take n p) → WriteFailed b c → WriteBrokeOff a c p
  broke_at first failed = record {
    prefix = take n p;
    rest = drop n p;
    parts = sym (take-append-drop n p);
    before = b;
    took = first;
    failed = failed;
  }

-- for a loop that writes one piece in parts
pub ruleset in_parts = (took_next, broke_at, took_none, at_error)
