-- Each block that is given back, or none, is what one turn may do.
use Rattle.std.proofs.Common.{Bool, List, None, [], ◌∷◌, false, inl, inr, refl, true, ℕ}
use Rattle.hd_model.specs.{declared.data.Kind.Kind, Kinds.is_paired}
use Rattle.hd_model.specs.declared.command.Cmd.TheVariants as cmd
use Rattle.hd_host.specs.Turns.{HostStep, IsAsItWasButLast, IsRow, TrimsBlock, TrimsBy, TrimsRow, gives_back, next_kind, no_kinds, one, one_more}
use Rattle.hd_host.specs.View.{HostView}

-- nothing but `last`, a command, or a step of the host alone
pub data OneTrim (each number : ℕ) (u w : HostView) : Type 0 where
  trim_kept : IsAsItWasButLast u w → OneTrim each number u w
  trim_ran : IsRow each number u w → OneTrim each number u w
  trim_stepped : HostStep each number u w → OneTrim each number u w

module _ (each number : ℕ) {u w : HostView} (kind : Kind) (given : ℕ) where
  trim_by : (paired : Bool) → TrimsBy paired u kind given w → OneTrim each number u w
  trim_by true (inl did) = trim_stepped (gives_back kind did.1)
  trim_by true (inr none) = trim_kept none.1.same
  trim_by false did = trim_ran (one (record {
    context = 0;
    command = cmd.Trim kind;
    own = inr refl;
    slot = None;
    with_handle = inl refl;
    entry = did.replied.entry;
    done = did.replied.done;
  }))

  pub one_trim : TrimsBlock u kind given w → OneTrim each number u w
  one_trim did = trim_by (is_paired kind) did

-- the blocks of a kind, and then those of others
pub row_on : {u v w : HostView} {kind : Kind} {kinds : List Kind} → TrimsRow (kind ∷ []) u v → TrimsRow kinds v w
    → TrimsRow (kind ∷ kinds) u w
row_on (one_more given some did rest) others = one_more given some did (row_on rest others)
row_on (next_kind did no_kinds) others = next_kind did others
