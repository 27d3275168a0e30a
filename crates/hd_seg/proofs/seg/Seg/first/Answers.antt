use Rattle.hd_seg.proofs.Basics.{IsTable, Table, ap, chain_of, slice_get, ◌∙◌, ◌≡◌}
use Rattle.hd_seg.proofs.{RowVectors.sound_table, ReadCalls.at_kind, ReadCalls.at_within}
use Rattle.hd_seg.proofs.seg.Seg.first.Goals.{After-first}
use Rattle.hd_seg.proofs.seg.Seg.first.Goals as goal

sound : (c : After-first) → IsTable c.args.self.now
sound c = sound_table c.self.invariant c.self.view_is

found : (c : After-first) → c.first.result ≡ slice_get (chain_of c.args.self.now c.args.kind) 0
found c = c.first.ensures ∙ ap (λ (t : Table). slice_get (chain_of t c.args.kind) 0) c.self.view_is

pub returns-clause-value : goal.returns-clause-value
returns-clause-value c = found c

pub returns-clause-table : goal.returns-clause-table
returns-clause-table c = sound c

pub returns-clause-within : goal.returns-clause-within
returns-clause-within c = at_within c.args.self.now (sound c) c.args.kind 0 c.first.result (found c)

pub returns-clause-of_kind : goal.returns-clause-of_kind
returns-clause-of_kind c = at_kind c.args.self.now (sound c) c.args.kind 0 c.first.result (found c)
