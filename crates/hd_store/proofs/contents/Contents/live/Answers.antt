use Rattle.hd_store.proofs.StoreWords.{Machine, ap, arith, len, parts, sym, unheld, ◌∙◌, ◌≡◌}
use Rattle.hd_store.proofs.{StoreRows.held-live, StateCounts.len-rows, StateCounts.len-unheld}
use Rattle.hd_store.proofs.contents.Contents.live.Goals as goal

pub returns : goal.returns
returns c =
    let f = parts c.self.inside in
    let split = len-unheld f.table.rows f.weak.held (held-live f c.self.invariant) in
    let handles : len (unheld f.table.rows f.weak.held) ≡ len c.args.self.now.state.handles =
    sym (len-rows f.heap (unheld f.table.rows f.weak.held))
    ∙ ap (λ (m : Machine). len m.state.handles) c.self.view_is in
    omega (arith, split, handles, c.live.ensures.value, c.held_count.ensures.value)

pub overflow_sub-result : goal.overflow_sub-result
overflow_sub-result c =
    let f = parts c.self.inside in
    let split = len-unheld f.table.rows f.weak.held (held-live f c.self.invariant) in
    omega (arith, split, c.live.ensures.value, c.held_count.ensures.value)
