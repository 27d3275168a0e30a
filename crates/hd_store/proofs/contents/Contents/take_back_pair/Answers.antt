use Rattle.hd_store.proofs.StoreWords.{Machine, Some, ap, arith, get, handles_of, kind_at, kind_in, machine_of, parts, subst, sym, use_of, without_block, ◌*◌, ◌∙◌, ◌≡◌}
use Rattle.hd_seg.specs.Pairs.{is_pair, without_data}
use Rattle.hd_model.specs.State.{without_use}
use Rattle.hd_store.proofs.StoreRows.{stored-back-pair, use-read, vacant-row, with_table}
use Rattle.hd_store.proofs.contents.Contents.take_back_pair.Goals.{After-take_back_pair}
use Rattle.hd_store.proofs.contents.Contents.take_back_pair.Goals as goal
use Rattle.hd_model.specs.declared.limits.TheConstants.{ROWS}

pub take_back_pair-requires-clause-pair : goal.take_back_pair-requires-clause-pair
take_back_pair-requires-clause-pair c =
    ap is_pair (use-read (parts c.self.inside) c.args.self.now c.self.view_is c.args.block
    (Some (handles_of c.args.kind))
    (subst (λ b. use_of c.args.self.now.state b ≡ Some (handles_of c.args.kind)) (omega arith)
    (c.requires.free (record { 0 = c.args.block * ROWS }) (omega arith)).of_kind)) ∙ c.requires.paired

pub take_back_pair-requires-clause-vacant : goal.take_back_pair-requires-clause-vacant
take_back_pair-requires-clause-vacant c = λ slot is. vacant-row (parts c.self.inside) c.args.self.now
    c.self.view_is (record { 0 = slot }) (c.requires.free (record { 0 = slot }) is).no_handle
    (c.requires.free (record { 0 = slot }) is).not_weak

of_kind : (c : After-take_back_pair)
    → get c.self.inside.table.uses c.args.block ≡ Some (handles_of c.args.kind)
of_kind c =
    use-read (parts c.self.inside) c.args.self.now c.self.view_is c.args.block (Some (handles_of c.args.kind))
    (subst (λ b. use_of c.args.self.now.state b ≡ Some (handles_of c.args.kind)) (omega arith)
    (c.requires.free (record { 0 = c.args.block * ROWS }) (omega arith)).of_kind)

pub invariant_of-self : goal.invariant_of-self
invariant_of-self c =
    stored-back-pair (parts c.self.inside) c.take_back_pair.new.self c.args.kind c.args.block
    c.take_back_pair.result c.self.invariant c.requires.paired (of_kind c) c.take_back_pair.ensures.extra
    (c.take_back_pair.ensures.after
    ∙ ap (λ k. without_block (without_data c.self.inside.table c.take_back_pair.result) k c.args.block)
    (ap kind_in (of_kind c)))

pub returns-clause-extra : goal.returns-clause-extra
returns-clause-extra c =
    sym (ap (λ (m : Machine). use_of m.state c.take_back_pair.result) c.self.view_is)
    ∙ c.take_back_pair.ensures.extra

pub returns-clause-after : goal.returns-clause-after
returns-clause-after c =
    let f = parts c.self.inside in
    let m = c.args.self.now in
    let extra = c.take_back_pair.result in
    let t = without_block (without_data f.table extra) (kind_at f.table c.args.block) c.args.block in
    subst (λ u. machine_of (with_table f u)
    ≡ record m { state = without_use (without_use m.state extra) c.args.block; table = u })
    (sym c.take_back_pair.ensures.after)
    (ap (λ (n : Machine). record n {
      state = without_use (without_use n.state extra) c.args.block;
      table = t;
    }) c.self.view_is)
