-- Identities as words.
use Rattle.std.specs.Prelude.{◌≡◌, ℕ, ◌/◌, ◌%◌, ◌^◌, ◌<◌, ◌≤◌, List}
use Rattle.hd_model.specs.declared.data.Id.{Id}
use Rattle.hd_model.specs.declared.limits.TheConstants.{CALLERS}
use Rattle.hd_model.specs.Text.{identity_text}

-- a word is the text of an identity that a caller may give
pub record IsIdWord (x : Id) (word : List ℕ) : Type 0 where
  pub caller : x.0 / 2 ^ 32 < CALLERS
  pub serial : 1 ≤ x.0 % 2 ^ 32
  pub text : word ≡ identity_text x
