-- What is seen of a store.
use Rattle.hd_seen.specs.Seen.{Picture, picture}
use Rattle.hd_store.specs.Store.{Machine}

-- the picture of a store as it is now
abbrev pub picture_of : Machine → Picture
picture_of m = picture m.numbers m.state m.ages m.heap m.table
