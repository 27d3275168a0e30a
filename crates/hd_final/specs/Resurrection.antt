-- Who joins the finalization queue in a collection (.NET: an object with a finalizer that is no longer
-- reached is kept, with all that it leads to, until its finalizer has run).
use Rattle.std.specs.Prelude.{◌≡◌, ℕ, ◌<◌, ◌≤◌, Bool, true, false, List, ◌++◌, Some, Contains, AllPairs}
use Rattle.hd_model.specs.{State.Object, Leads.Grows, Scene.Objects, Scene.IsYoungField}

-- a registered condemned object that is not promoted
pub record IsOut {N : Type 0} (o : Objects N) (n : ℕ) (p : N → Bool) (x : N) : Type 0 where
  pub object : Object N
  pub is_stored : o x ≡ Some object
  pub registered : object.registered ≡ true
  pub young : object.generation ≤ n
  pub out : p x ≡ false

-- those outside p join the queue in rising rank, each once, and q is p with them and what they lead to
pub record Resurrects {N : Type 0} (rank : N → ℕ) (o : Objects N) (n : ℕ) (p q : N → Bool)
    (queue after : List N)
    : Type 0 where
  pub grows : Grows (IsYoungField o n) (IsOut o n p) p q
  pub joins : List N
  pub queue_is : after ≡ queue ++ joins
  pub each : (x : N) → Contains joins x → IsOut o n p x
  pub all : (x : N) → IsOut o n p x → Contains joins x
  pub rising : AllPairs (λ x y. rank x < rank y) joins
