-- The chains of blocks as rings of nodes: the node of a kind, by its number, and then those of the chain's
-- blocks, by theirs and as many more as there are kinds. Each node has the next and the previous one.
use Rattle.std.specs.Prelude.{◌≡◌, ℕ, zero, suc, ◌+◌, ◌-◌, ◌<◌, ◌≤◌, List, [], ◌∷◌, cond, length, map, nat_lt, slice_index, slice_index_or, Contains, Option, Some, None, refl}
use Rattle.std.specs.Coded.{Coded, code_by, coded×, coded_list, coded_ℕ}
use Rattle.std.specs.List.{range_with_len}
use Rattle.hd_model.specs.declared.limits.TheConstants.{HOST_BLOCKS, KINDS}

-- the chain of each kind, by its number, and the greatest block that there is room for
pub record ChainLists : Type 0 where
  pub lists : List (List ℕ)
  pub room : ℕ

abbrev pub chain_lists_code : Coded ChainLists
chain_lists_code =
    code_by (List (List ℕ) × ℕ) (coded× (coded_list (coded_list coded_ℕ)) coded_ℕ) (λ c. (c.lists, c.room))
    (λ p. record { lists = p.0; room = p.1 }) (λ _. refl)

-- the block of a node that is not one of a kind
abbrev pub block_in : ℕ → Option ℕ
block_in node = cond (nat_lt node KINDS) None (Some (node - KINDS))

-- the blocks from a node on, at most so many, up to the next node of a kind
abbrev pub walked : ℕ → List ℕ → ℕ → List ℕ
walked zero next node = []
walked (suc most) next node =
    cond (nat_lt node KINDS) [] ((node - KINDS) ∷ walked most next (slice_index next node))

unfoldable pub chains_in : ℕ → List ℕ → List (List ℕ)
chains_in room next = map (λ k. walked room next (slice_index next k)) (range_with_len 0 KINDS)

-- one node comes right after another
pub record IsNext (next previous : List ℕ) (from to : ℕ) : Type 0 where
  pub after : slice_index next from ≡ to
  pub before : slice_index previous to ≡ from

-- from one node to another come exactly the nodes of some blocks
pub data IsPath (next previous : List ℕ) : ℕ → List ℕ → ℕ → Type 0 where
  ends : {from to : ℕ} → IsNext next previous from to → IsPath next previous from [] to
  goes : {from to b : ℕ} {bs : List ℕ} → IsNext next previous from (b + KINDS)
      → IsPath next previous (b + KINDS) bs to → IsPath next previous from (b ∷ bs) to

-- each chain is a ring of nodes
pub record IsRings (room : ℕ) (next previous : List ℕ) (lists : List (List ℕ)) : Type 0 where
  pub few : room ≤ HOST_BLOCKS
  pub next_size : room + KINDS < length next
  pub previous_size : room + KINDS < length previous
  pub kinds : length lists ≡ KINDS
  pub short : (k : ℕ) → length (slice_index_or lists k []) ≤ room
  pub within : (k b : ℕ) → Contains (slice_index_or lists k []) b → b ≤ room
  pub ring : (k : ℕ) → k < KINDS → IsPath next previous k (slice_index_or lists k []) k

-- the node of each kind leads to itself
pub record LeadsToSelf (room : ℕ) (links : List ℕ) : Type 0 where
  pub size : length links ≡ room + KINDS + 1
  pub self : (k : ℕ) → k < KINDS → slice_index links k ≡ k

-- a block is in a chain
pub record IsChained (lists : List (List ℕ)) (block : ℕ) : Type 0 where
  pub kind : ℕ
  pub member : Contains (slice_index_or lists kind []) block
