-- What a marker and a forwarding state, whatever their layout: after the mark and the plan phase of CoreCLR's
-- collector.
use Rattle.std.specs.Prelude.{◌≡◌, ◌≢◌, ℕ, ◌<◌, ◌⊎◌, Bool, true, List, Contains, AllPairs}
use Rattle.hd_model.specs.Leads.{IsClosed}
use Rattle.hd_model.specs.Scene.{Objects, is_object, generation_at, IsCondemned, IsYoungField}

-- what is promoted: objects alone, all of an older generation, closed under the fields of condemned objects
pub record IsSettled {N : Type 0} (o : Objects N) (n : ℕ) (promoted : N → Bool) : Type 0 where
  pub objects : (x : N) → promoted x ≡ true → is_object o x ≡ true
  pub older : (x : N) → n < generation_at o x → promoted x ≡ true
  pub closed : IsClosed (IsYoungField o n) promoted

-- the condemned objects that are promoted, each once
pub record IsPromotionLog {N : Type 0} (o : Objects N) (n : ℕ) (promoted : N → Bool) (log : List N)
    : Type 0 where
  pub apart : AllPairs (λ x y. x ≢ y) log
  pub each : (x : N) → Contains log x → IsCondemned o n x × (promoted x ≡ true)
  pub all : (x : N) → IsCondemned o n x → promoted x ≡ true → Contains log x

-- what is kept, and its forwarding address: objects alone, all of an older generation, which do not move, and
-- no two to one address
pub record IsKeeping {N : Type 0} (o : Objects N) (n : ℕ) (kept : N → Bool)
    (forwarding : N → N) : Type 0 where
  pub objects : (x : N) → kept x ≡ true → is_object o x ≡ true
  pub older : (x : N) → n < generation_at o x → kept x ≡ true
  pub in_place : (x : N) → n < generation_at o x → forwarding x ≡ x
  pub apart : (x y : N) → kept x ≡ true → kept y ≡ true → forwarding x ≡ forwarding y → x ≡ y

-- q is p with one member more, and no other
pub record Gains {N : Type 0} (at : N) (p q : N → Bool) : Type 0 where
  pub keeps : (x : N) → p x ≡ true → q x ≡ true
  pub joins : q at ≡ true
  pub only : (x : N) → q x ≡ true → (p x ≡ true) ⊎ (x ≡ at)
