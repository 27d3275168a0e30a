use Rattle.hd_seg.proofs.Basics.{IsTable, List, Table, chain_of, kind_at, slice_get, subst, ℕ, ◌++◌, ◌∷◌, ◌≡◌}
use Rattle.hd_seg.proofs.{RowVectors.sound_table, ReadCalls.after_kind, ReadCalls.after_within}
use Rattle.hd_seg.proofs.seg.Seg.after.Goals.{After-after}
use Rattle.hd_seg.proofs.seg.Seg.after.Goals as goal

sound : (c : After-after) → IsTable c.args.self.now
sound c = sound_table c.self.invariant c.self.view_is

pub returns-clause-table : goal.returns-clause-table
returns-clause-table c = sound c

followed : (c : After-after) (before after : List ℕ)
    → chain_of c.args.self.now (kind_at c.args.self.now c.args.block) ≡ before ++ c.args.block ∷ after
    → c.after.result ≡ slice_get after 0
followed c = subst (λ (t : Table). (before after : List ℕ) → chain_of t (kind_at t c.args.block)
    ≡ before ++ c.args.block ∷ after → c.after.result ≡ slice_get after 0) c.self.view_is c.after.ensures

pub returns-clause-within : goal.returns-clause-within
returns-clause-within c = after_within c.args.self.now (sound c) c.args.block c.requires c.after.result
    (followed c)

pub returns-clause-of_kind : goal.returns-clause-of_kind
returns-clause-of_kind c = after_kind c.args.self.now (sound c) c.args.block c.requires c.after.result
    (followed c)
