-- What is seen of a sink, and what writes do to it. As Rust's `Write`, but a sink counts its faults and may
-- stop stating its bytes, as one without room does.
use Rattle.std.specs.Prelude.{◌≡◌, ℕ, List, ◌++◌, ⊤, Option, None, Some}
use Rattle.hd_io.specs.Counts.{Rose}

-- what is written, `None` where the sink doesn't state it, and how many writes have failed
pub record SinkView : Type 0 where
  pub written : Option (List ℕ)
  pub faults : ℕ

-- where the sink states what is written, it stated what was written before, and this was added to it
abbrev pub Appends : Option (List ℕ) → Option (List ℕ) → List ℕ → Type 0
Appends old None piece = ⊤
Appends None (Some after) piece = ⊥
Appends (Some before) (Some after) piece = after ≡ before ++ piece

-- the sink took this piece, and no write failed
pub record Took (old new : SinkView) (piece : List ℕ) : Type 0 where
  pub appended : Appends old.written new.written piece
  pub unfailed : new.faults ≡ old.faults

-- a write failed: it added nothing, and the count of faults rose
pub record WriteFailed (old new : SinkView) : Type 0 where
  pub written : new.written ≡ old.written
  pub rose : Rose old.faults new.faults

-- the sink took a prefix of the piece, which may be none or all of it, and then a write failed, the
-- last one
pub record WriteBrokeOff (old new : SinkView) (piece : List ℕ) : Type 0 where
  pub prefix : List ℕ
  pub rest : List ℕ
  pub parts : piece ≡ prefix ++ rest
  pub before : SinkView
  pub took : Took old before prefix
  pub failed : WriteFailed before new
