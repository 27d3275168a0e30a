use Rattle.hd_store.proofs.StoreWords.{Machine, Some, ap, arith, handles_of, kind_at, machine_of, parts, subst, sym, use_of, without_block, without_use, ◌*◌, ◌≡◌}
use Rattle.hd_store.proofs.StoreRows.{with_table, stored-back, block-single, vacant-row}
use Rattle.hd_store.proofs.contents.Contents.take_back.Goals as goal
use Rattle.hd_model.specs.declared.limits.TheConstants.{ROWS}

pub take_back-requires-clause-single : goal.take_back-requires-clause-single
take_back-requires-clause-single c =
    block-single (parts c.self.inside) c.args.self.now c.self.view_is c.args.kind c.args.block
    c.requires.single
    (subst (λ b. use_of c.args.self.now.state b ≡ Some (handles_of c.args.kind)) (omega arith)
    (c.requires.free (record { 0 = c.args.block * ROWS }) (omega arith)).of_kind)

pub take_back-requires-clause-vacant : goal.take_back-requires-clause-vacant
take_back-requires-clause-vacant c = λ slot is. vacant-row (parts c.self.inside) c.args.self.now
    c.self.view_is (record { 0 = slot }) (c.requires.free (record { 0 = slot }) is).no_handle
    (c.requires.free (record { 0 = slot }) is).not_weak

pub invariant_of-self : goal.invariant_of-self
invariant_of-self c = stored-back (parts c.self.inside) c.take_back.new.self
    (kind_at c.self.inside.table c.args.block) c.args.block c.self.invariant
    (take_back-requires-clause-single c.before) c.take_back.ensures

pub returns : goal.returns
returns c =
    let f = parts c.self.inside in
    let m = c.args.self.now in
    let t = without_block f.table (kind_at f.table c.args.block) c.args.block in
    subst (λ u. machine_of (with_table f u)
    ≡ record m { state = without_use m.state c.args.block; table = u }) (sym c.take_back.ensures)
    (ap (λ (n : Machine). record n { state = without_use n.state c.args.block; table = t }) c.self.view_is)
