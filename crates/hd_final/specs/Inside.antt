-- What private clauses alone cite.
use Rattle.std.specs.Prelude.{◌≢◌, ℕ, ◌^◌, ◌<◌, ◌≤◌, List, length, AllPairs, ◌≡◌, Bool, map, Contains}
use Rattle.hd_model.specs.declared.data.Addr.{Addr}
use Rattle.hd_model.specs.Heap.{Heap, object_at, id_at}
use Rattle.hd_final.specs.{declared.joiners.Joiner.Joiner, Resurrection.IsOut}

-- ---- what is always true of the fields of a finalization queue

-- nothing is queued twice, no more is queued than there is room for, and both lists can hold as many without
-- memory
pub record IsKept (queued : List Addr) (room capacity joiner_room : ℕ) : Type 0 where
  pub once : AllPairs (λ x y. x ≢ y) queued
  pub fits : length queued ≤ room
  pub low : room < 2 ^ 32
  pub held : room ≤ capacity
  pub joiners : room ≤ joiner_room

-- ---- the list of the objects that are to join, each with its identity, as they are found

-- their addresses
abbrev pub addresses : List Joiner → List Addr
addresses js = map (λ (j : Joiner). j.at) js

-- all objects outside p, with their identities, each once
pub record IsFound (h : Heap) (n : ℕ) (p : Addr → Bool) (js : List Joiner) : Type 0 where
  pub once : AllPairs (λ x y. x ≢ y) (addresses js)
  pub outside : (j : Joiner) → Contains js j → IsOut (object_at h) n p j.at
  pub identified : (j : Joiner) → Contains js j → j.id ≡ id_at h j.at
  pub all : (a : Addr) → IsOut (object_at h) n p a → Contains (addresses js) a

-- the same of those below an address
pub record IsFinding (h : Heap) (n : ℕ) (p : Addr → Bool) (bound : ℕ) (js : List Joiner) : Type 0 where
  pub once : AllPairs (λ x y. x ≢ y) (addresses js)
  pub outside : (j : Joiner) → Contains js j → IsOut (object_at h) n p j.at
  pub identified : (j : Joiner) → Contains js j → j.id ≡ id_at h j.at
  pub below : (j : Joiner) → Contains js j → j.at.0 < bound
  pub all : (a : Addr) → IsOut (object_at h) n p a → a.0 < bound → Contains (addresses js) a
