-- The roots among handles, and their lines, as bytes. The lines are this project's own format.
use Rattle.std.specs.Prelude.{ℕ, List}
use Rattle.hd_model.specs.State.{State}
use Rattle.hd_model.specs.RootText.{list_text, roots_of}

abbrev pub roots_text : State → List ℕ
roots_text s = list_text (roots_of s)
