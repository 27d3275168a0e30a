use Rattle.hd_ages.proofs.Basics.{Advances, CLUMP, IsOver, MatchOption, Option, ap, arith, bit_and, contains_key, clump_at, length, length-map, map, nat_le, refl, set_bits, slice_index, slots_of, subst, sym, ℕ, ◌*◌, ◌+◌, ◌/◌, ◌≤◌, ◌∙◌, ◌≡◌, ROWS}
use Rattle.hd_ages.proofs.WalkSteps.{due_of, handles_next, new_block, next_first, next_kind, next_within, over}
use Rattle.hd_ages.proofs.ClumpBits.{both_bits, rows_by_bits}
use Rattle.hd_ages.proofs.due_rows.DueRows.advance.Goals as goal

pub returns-in_err-block-clause-goes : goal.returns-in_err-block-clause-goes
returns-in_err-block-clause-goes g c =
    subst (λ (r : Option (Unit {0})). MatchOption r (IsOver c.args.seg.now c.args.ages.now c.args.self.now)
    (λ x. Advances c.args.seg.now c.args.ages.now c.args.self.now c.args.self.now c.args.steps.now
    c.args.steps.now))
    (sym c.from_residual.ensures)
    (over c.args.seg.now c.args.ages.now c.args.self.now c.in_err-block.was c.requires.none)

pub after-self-requires : goal.after-self-requires
after-self-requires g c = handles_next c.args.seg.now c.args.self.now.kind c.in_ok-block.block c.in_ok-block.was c.requires.on.next

pub due-due-requires-clause-low : goal.due-due-requires-clause-low
due-due-requires-clause-low g c =
    (next_within c.args.seg.now c.args.self.now.kind c.in_ok-block.block c.in_ok-block.was c.requires.on.next c.after-self.ensures.table).0

pub due-due-requires-clause-high : goal.due-due-requires-clause-high
due-due-requires-clause-high g c =
    let within = next_within c.args.seg.now c.args.self.now.kind c.in_ok-block.block c.in_ok-block.was
    c.requires.on.next c.after-self.ensures.table in
    omega (arith, within.1, c.requires.blocks)

pub returns-clause-on : goal.returns-clause-on
returns-clause-on g c =
    let within = next_within c.args.seg.now c.args.self.now.kind c.in_ok-block.block c.in_ok-block.was c.requires.on.next c.after-self.ensures.table in
    record {
      first = omega (arith, within.1);
      next = next_kind c.args.seg.now c.args.self.now.kind c.in_ok-block.block c.in_ok-block.was c.requires.on.next c.after-self.ensures.table
          c.after-self.result c.after-self.ensures.value c.after-self.ensures.of_kind;
      few = c.requires.on.few;
    }

pub returns-clause-goes : goal.returns-clause-goes
returns-clause-goes g c =
    let b : ℕ = c.in_ok-block.block in
    let n : ℕ = c.args.self.now.n in
    let young = λ (clump : ℕ). nat_le (slice_index c.args.ages.now clump) n in
    let mask : ℕ = bit_and c.rows_of.result c.live_rows.result in
    let low : 1 ≤ b =
    (next_within c.args.seg.now c.args.self.now.kind b c.in_ok-block.was c.requires.on.next c.after-self.ensures.table).0 in
    let rows : map (λ row. ROWS * b + row) (set_bits mask)
    ≡ slots_of c.args.seg.now (due_of c.args.ages.now n b) =
    rows_by_bits c.args.seg.now young mask b low
    (λ i lt. both_bits c.rows_of.result c.live_rows.result i (young (clump_at b (i / CLUMP)))
    (contains_key c.args.seg.now.rows (ROWS * b + i))
    (c.rows_of.ensures i lt ∙ c.due-due.ensures.bits (i / CLUMP) (omega arith))
    (c.live_rows.ensures.bits i lt)) in
    new_block c.args.seg.now c.args.ages.now c.args.self.now _ b
    (next_first c.args.seg.now c.args.self.now.kind b c.in_ok-block.was c.requires.on.next c.after-self.ensures.table c.after-self.result
    c.after-self.ensures.value) refl c.args.steps.now c.tick_each.new.steps
    c.requires.none rows
    (omega (
      arith,
      c.tick_each.ensures,
      ap length c.due-due.ensures.clumps,
      length-map (set_bits c.due-due.result) (clump_at b),
    ))
