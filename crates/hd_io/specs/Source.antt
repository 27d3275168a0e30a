-- What is seen of a source, and what reads do to it. As Rust's `Read`, but a source counts the bytes that it
-- gave and its faults.
use Rattle.std.specs.Prelude.{◌≡◌, ℕ, ◌≤◌, List, length, Option}
use Rattle.std.specs.Io.KnownBytes.{Consumes, IsAtEnd}
use Rattle.hd_io.specs.Counts.{Rose, RoseBy}

-- what is left to read, `None` where the source doesn't state it, how many bytes it has given, and
-- how many reads have failed
pub record SourceView : Type 0 where
  pub left : Option (List ℕ)
  pub given : ℕ
  pub faults : ℕ

-- The source gave these bytes, and no read failed. Where it stated what was left they were the
-- next of it, and it states the rest.
pub record Gave (old new : SourceView) (bytes : List ℕ) : Type 0 where
  pub consumed : Consumes old.left new.left bytes
  pub counted : RoseBy old.given new.given (length bytes)
  pub unfailed : new.faults ≡ old.faults

-- The source gave these bytes to its end, and no read failed. So where it stated what was left,
-- they are all of it, and it states that none is left.
pub record GaveAll (old new : SourceView) (bytes : List ℕ) : Type 0 where
  pub gave : Gave old new bytes
  pub end : IsAtEnd new.left

-- the source gave bytes, whose number is one of these, and no read failed
pub record GaveCount (old new : SourceView) (IsCount : ℕ → Type 0) : Type 0 where
  pub bytes : List ℕ
  pub gave : Gave old new bytes
  pub count : IsCount (length bytes)

-- a read failed: it gave nothing, and the count of faults rose
pub record ReadFailed (old new : SourceView) : Type 0 where
  pub left : new.left ≡ old.left
  pub given : new.given ≡ old.given
  pub rose : Rose old.faults new.faults

-- the source gave at most `most` bytes, and then a read failed, the last one
pub record ReadBrokeOff (old new : SourceView) (most : ℕ) : Type 0 where
  pub before : SourceView
  pub gave : GaveCount old before (λ n. n ≤ most)
  pub failed : ReadFailed before new
