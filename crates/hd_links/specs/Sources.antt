-- Links by the objects that they attach others to.
use Rattle.std.specs.Prelude.{◌≡◌, ℕ, List, Contains, Option, Some, None}
use Rattle.std.specs.List.Sorted.{IsNonDecreasingBy}
use Rattle.hd_model.specs.declared.data.Id.{Id}
use Rattle.hd_links.specs.declared.links.Link.{Link}

-- the number of the source of a link, and 0 where it has none
abbrev pub number_of : Option Id → ℕ
number_of None = 0
number_of (Some x) = x.0

abbrev pub source_number : Link → ℕ
source_number l = number_of l.source

-- those of some links that have a source, in the order of their sources
pub record AreAttaching (links attaching : List Link) : Type 0 where
  pub among : (l : Link) → Contains attaching l → Contains links l
  pub all : (l : Link) (x : Id) → Contains links l → l.source ≡ Some x → Contains attaching l
  pub rising : IsNonDecreasingBy source_number attaching

-- some of these links, among them all of a source
pub record IsPartFrom (links : List Link) (x : Id) (part : List Link) : Type 0 where
  pub among : (l : Link) → Contains part l → Contains links l
  pub all : (l : Link) → Contains links l → l.source ≡ Some x → Contains part l
