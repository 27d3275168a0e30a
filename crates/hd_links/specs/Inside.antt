-- What private clauses alone cite.
use Rattle.std.specs.Prelude.{ℕ, ◌<◌, ◌≤◌, List, [], ◌∷◌, length, slice_index_or, is_some, if◌then◌else◌}
use Rattle.hd_model.specs.declared.data.Id.{Id}
use Rattle.hd_links.specs.{declared.links.Link.Link, Sources.source_number, Links.is_at, Graph.numbers_of}

-- a link, if it has a source
abbrev pub attaching_link : Link → List Link
attaching_link l = if is_some l.source then l ∷ [] else []

-- the links before an index are those of lower sources
pub record IsCut (links : List Link) (least index : ℕ) : Type 0 where
  pub within : index ≤ length links
  pub low : (k : ℕ) (d : Link) → k < index → source_number (slice_index_or links k d) < least
  pub high : (k : ℕ) (d : Link) → index ≤ k → k < length links → least ≤ source_number (slice_index_or links k d)

-- what a link attaches to an object
abbrev pub attached_to : Id → Link → List ℕ
attached_to x l = if is_at l.source x then numbers_of l.attached else []
