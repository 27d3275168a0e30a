use Rattle.hd_store.proofs.StoreWords.{IsStored, IsTable, Machine, Parts, ap, arith, inl, inr, machine_of, max, parts, subst, sym, take, ⊎_elim, ◌*◌, ◌∙◌}
use Rattle.hd_model.specs.declared.limits.TheConstants.{CLUMPS}
use Rattle.hd_store.specs.{Growth.with_blocks, Inside.HasWeakRoom}
use Rattle.hd_store.proofs.LargerTable.{ages_back, most_is, stored_larger, table_is, up}
use Rattle.hd_store.proofs.contents.Contents.reserve_blocks.Goals as goal

pub larger_weak-requires-clause-within : goal.larger_weak-requires-clause-within
larger_weak-requires-clause-within c =
    ⊎_elim
    (λ wide. inl (omega (
      arith,
      wide.blocks_are,
      c.max-most.ensures,
      c.blocks-before.ensures.value,
      c.self.invariant.clumps,
    ))) (λ unused. inr unused.1) c.self.invariant.weak_room

pub invariant_of-self-in-Ok : goal.invariant_of-self-in-Ok
invariant_of-self-in-Ok c =
    let most = c.max-most.result in
    let long = c.blocks-before.ensures.value in
    let table = table_is c.self.invariant most c.args.blocks c.blocks-before.result c.max-most.ensures long
    c.in-Ok.ensures.after in
    let callers = c.callers.ensures ∙ ap (λ (m : Machine). m.numbers.callers) (sym c.self.view_is) in
    subst IsStored (λ i. record (parts c.self.inside) {
      table = sym table i;
      ages = sym c.in_ok-reserve.ensures i;
      weak = c.in_ok-weak.weak;
    })
    (stored_larger c.self.invariant most
    (up c.self.invariant most c.args.blocks c.blocks-before.result c.max-most.ensures long)
    (omega (arith, c.max-most.ensures, c.blocks-before.ensures.few, c.requires.blocks)) c.in_ok-weak.weak
    c.in_ok-weak.ensures.held
    (subst (λ n. HasWeakRoom most n c.in_ok-weak.weak) callers c.in_ok-weak.ensures.room)
    (subst IsTable table c.reserve-2.ensures.table))

pub returns-in-Ok : goal.returns-in-Ok
returns-in-Ok c =
    let p : Parts = parts c.self.inside in
    let most = c.max-most.result in
    let long = c.blocks-before.ensures.value in
    let table = table_is c.self.invariant most c.args.blocks c.blocks-before.result c.max-most.ensures long
    c.in-Ok.ensures.after in
    (λ i. machine_of (record p {
      table = table i;
      ages = c.in_ok-reserve.ensures i;
      weak = record c.in_ok-weak.weak { held = c.in_ok-weak.ensures.held i };
    }))
    ∙ ap (λ n. with_blocks n (machine_of p))
    (most_is c.self.invariant most c.args.blocks c.blocks-before.result c.max-most.ensures long)
    ∙ ap (λ (m : Machine). with_blocks (max m.numbers.blocks c.args.blocks) m) c.self.view_is

pub invariant_of-self-in-Err-1 : goal.invariant_of-self-in-Err-1
invariant_of-self-in-Err-1 c =
    let ages = c.cut.ensures ∙ ap (take (CLUMPS * c.blocks-before.result)) c.in_ok-reserve.ensures
    ∙ ages_back c.self.invariant c.max-most.result c.blocks-before.result _ c.blocks-before.ensures.value in
    subst IsStored
    (λ i. record (parts c.self.inside) { table = sym c.in-Err.ensures.after i; ages = sym ages i })
    c.self.invariant

pub returns-in-Err : goal.returns-in-Err
returns-in-Err c =
    let ages = c.cut.ensures ∙ ap (take (CLUMPS * c.blocks-before.result)) c.in_ok-reserve.ensures
    ∙ ages_back c.self.invariant c.max-most.result c.blocks-before.result _ c.blocks-before.ensures.value in
    (λ i. machine_of (record (parts c.self.inside) { table = c.in-Err.ensures.after i; ages = ages i }))
    ∙ c.self.view_is
