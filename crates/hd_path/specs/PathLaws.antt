-- Laws of what `path` writes, against `gcroot`.
use Rattle.std.specs.Prelude.{◌≡◌, ℕ, List, length}
use Rattle.hd_model.specs.Anchors.{ReturnsRoot}
use Rattle.hd_model.specs.declared.data.Reply.{Reply}
use Rattle.hd_model.specs.declared.data.Reply.TheVariants as reply
use Rattle.hd_model.specs.State.{State}
use Rattle.hd_path.specs.Chains.{HasNoChain, IsLeastChain}
use Rattle.hd_links.specs.Graph.{named}
use Rattle.hd_path.specs.Paths.{BeginsAt, LeadsBy}

-- the chain that is written begins at the anchor that `gcroot` returns, and has as many edges
abbrev pub ChainsBeginAtRoots : Type 0
ChainsBeginAtRoots =
    (s : State) (goal first : ℕ) (rest : List ℕ) (r : Reply)
    → IsLeastChain (LeadsBy s) (BeginsAt s) goal first rest → ReturnsRoot s (named goal) r
    → r ≡ reply.Chain (named first) (length rest)

-- and where none is written `gcroot` returns that the object is unrooted
abbrev pub NoChainIsUnrooted : Type 0
NoChainIsUnrooted =
    (s : State) (goal : ℕ) (r : Reply) → HasNoChain (LeadsBy s) (BeginsAt s) goal
    → ReturnsRoot s (named goal) r → r ≡ reply.Unrooted
