-- How what a source gave composes.
use Rattle.std.proofs.Common.{◌≡◌, ◌≤◌, ◌+◌, ℕ, List, ◌++◌, length, take, arith, length-take, sym, ◌∙◌, subst, length-append}
use Rattle.std.proofs.KnownBytes.{Consumes-trans}
use Rattle.hd_io.specs.Counts.{RoseBy}
use Rattle.hd_io.specs.Source.{SourceView, Gave, GaveCount}

rose_by_more : (a b c m n : ℕ) → RoseBy a b m → RoseBy b c n → RoseBy a c (m + n)
rose_by_more a b c m n first then = grind arith

-- these bytes and then those are both as one
pub gave_more : (a b c : SourceView) (p q : List ℕ) → Gave a b p → Gave b c q → Gave a c (p ++ q)
gave_more a b c p q first then = record {
  consumed = Consumes-trans a.left b.left c.left p q first.consumed then.consumed;
  counted = subst (λ n. RoseBy a.given c.given n) (sym (length-append p q))
      (rose_by_more a.given b.given c.given _ _ first.counted then.counted);
  unfailed = then.unfailed ∙ first.unfailed;
}

-- and so with the first n bytes of a buffer, whose number is known
pub gave_count : (a b c : SourceView) (p buf : List ℕ) (n : ℕ) (IsCount : ℕ → Type 0) →
    Gave a b p → Gave b c (take n buf) → n ≤ length buf → IsCount (length p + n) → GaveCount a c IsCount
gave_count a b c p buf n IsCount first then fits count =
    let long : length p + n ≡ length (p ++ take n buf) =
    omega (arith, length-append p (take n buf), length-take n buf) in
    record {
      bytes = p ++ take n buf;
      gave = gave_more a b c p (take n buf) first then;
      count = subst IsCount long count;
    }
