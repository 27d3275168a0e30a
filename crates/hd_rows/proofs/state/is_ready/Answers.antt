use Rattle.std.proofs.Common.{◌≡◌, true, List, Option, Some, length, sym, subst, ◌∙◌}
use Rattle.std.specs.Prelude.{Contains}
use Rattle.hd_model.specs.declared.data.Addr.{Addr}
use Rattle.hd_model.specs.Heap.{has_object}
use Rattle.std.proofs.lemmas.Bool.{eqb-true}
use Rattle.hd_rows.proofs.Readiness.{is_ready}
use Rattle.hd_rows.proofs.state.is_ready.Goals as goal

pub returns : goal.returns
returns c = λ none.
    let s = c.args.s.now in
    let empty : length s.fin.queued ≡ 0 = sym c.len.ensures.value ∙ eqb-true c.len.result 0 none in
    is_ready s.heap s.seg s.ages s.fin s.roots.items c.requires.full c.requires.clumps c.requires.room
    (c.is_bare.ensures c.if-not-is_bare.false) (c.are_alone.ensures c.if-not-are_alone.false)
    (c.are_plain.ensures c.if-not-are_plain.false)
    (subst (λ (xs : List (Option Addr)). (x : Addr) → Contains xs (Some x) → has_object s.heap x ≡ true)
    c.deref.ensures.value (c.roots_are_objects.ensures c.if-not-roots_are_objects.false)) empty
