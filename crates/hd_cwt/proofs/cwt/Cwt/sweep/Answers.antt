use Rattle.hd_cwt.proofs.Basics.{WeakTable, arith, get_or_default_zero, length, node_at, refl, subst, sym, ℕ, ⊎_elim, ◌+◌, ◌-◌, ◌<◌, ◌≤◌, ◌∙◌, ◌≡◌}
use Rattle.hd_cwt.proofs.KeyChanges.{IsSwept, all_swept, none_swept, relisted, slot_within, sweep_left, sweep_taken, taken_listed}
use Rattle.hd_cwt.proofs.cwt.Cwt.sweep.Goals as goal

pub loop-left-init : goal.loop-left-init
loop-left-init c =
    let slots = c.self.inside.keyed.slots in
    let all : length slots.items ≡ c.len-left.result = omega (arith, slots.ok.0, c.len-left.ensures) in (
      subst (λ n. IsSwept c.args.seg.now c.self.inside.keyed.indexes.items n c.args.self.now
          c.self.inside.entries) all (subst (λ (t : WeakTable). IsSwept c.args.seg.now c.self.inside.keyed.indexes.items
          (length slots.items) t c.self.inside.entries) c.self.view_is
          (none_swept c.args.seg.now c.self.invariant)),
      c.self.invariant,
      omega (arith, all),
    )

pub loop-left-preserved : goal.loop-left-preserved
loop-left-preserved c =
    let seg = c.args.seg.now in
    let keyed = c.loop-left.self-inside.keyed in
    let old = c.args.self.now in
    let now = c.loop-left.self-inside.entries in
    let next = c.sweep_slot.new.keyed in
    let i : ℕ = c.loop-left.left - 1 in
    let more : c.loop-left.left ≡ i + 1 = omega arith in
    let low : i < length keyed.slots.items = omega (arith, more, c.loop-left.invariant.2) in
    let slot : ℕ = c.index-slot.result.now in
    let at : slot ≡ node_at keyed.slots.items i =
    c.index-slot.ensures ∙ get_or_default_zero keyed.slots.items i slot low in
    let swept : IsSwept seg keyed.indexes.items (i + 1) old now =
    subst (λ n. IsSwept seg keyed.indexes.items n old now) more c.loop-left.invariant.0 in
    let listed = c.loop-left.invariant.1 in
    ⊎_elim
    (λ taken. (
      sweep_taken swept listed low slot at taken,
      relisted (taken_listed swept listed low slot at taken) refl refl refl c.sweep_slot.ensures.capacity,
      (let shorter = taken.lists.shorter in omega (arith, shorter, low)),
    ))
    (λ left. (
      subst (λ (t : WeakTable). IsSwept seg next.indexes.items i old t) (sym left.entries)
          (subst (λ ps. IsSwept seg ps i old now) (sym left.indexes_are)
          (sweep_left swept listed low slot at left.target)),
      relisted listed left.entries left.slots_are left.indexes_are c.sweep_slot.ensures.capacity,
      subst (λ xs. i ≤ length xs) (sym left.slots_are) (omega (arith, low)),
    )) c.sweep_slot.ensures.swept

pub sweep_slot-requires-clause-held : goal.sweep_slot-requires-clause-held
sweep_slot-requires-clause-held c =
    let keyed = c.loop-left.self-inside.keyed in
    let i : ℕ = c.loop-left.left - 1 in
    let low : i < length keyed.slots.items = omega (arith, c.loop-left.invariant.2) in
    let slot : ℕ = c.index-slot.result.now in
    let at : slot ≡ node_at keyed.slots.items i =
    c.index-slot.ensures ∙ get_or_default_zero keyed.slots.items i slot low in
    omega (arith, at, slot_within c.loop-left.invariant.1 i low)

pub returns-clause-each : goal.returns-clause-each
returns-clause-each c = all_swept c.loop-left.invariant.0 (omega arith)
