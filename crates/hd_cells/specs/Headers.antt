-- A walk over a region by headers.
use Rattle.std.specs.Prelude.{◌≡◌, ℕ, ◌+◌, ◌⊎◌, length, Option, Some, None, MatchOption}
use Rattle.hd_cells.specs.declared.region.Header.{Header}
use Rattle.hd_cells.specs.Object.{size_of}
use Rattle.hd_cells.specs.Region.{Contents, IsObject, object_at, fields_at, IsFirstFrom}

-- the start of a region, or where an object ends
abbrev pub IsEnd : Contents → ℕ → Type 0
IsEnd r from = (from ≡ 0) ⊎ ((at : ℕ) × (IsObject r at × (from ≡ at + size_of (object_at r at))))

-- what the header of an object says
pub record IsHeader (r : Contents) (at : ℕ) (h : Header) : Type 0 where
  pub offset : h.at ≡ at
  pub fields : h.fields ≡ length (fields_at r at)
  pub registered : h.registered ≡ (object_at r at).registered

-- the first object from an offset on, and what its header says
abbrev pub IsHeaderFrom : Contents → ℕ → Option Header → Type 0
IsHeaderFrom r from answer = MatchOption answer
    (IsFirstFrom r from None)
    (λ h. IsFirstFrom r from (Some h.at) × IsHeader r h.at h)
