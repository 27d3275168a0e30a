use Rattle.hd_pool.proofs.Basics.{BITS, KINDS, KindBlocks, None, NumberSet, ROWS, ap, arith, by_index-empty, empty, get_or, get_or-replicate_None, kind_at, length, replicate, rules, sym, ℕ, ◌*◌, ◌+◌, ◌-◌, ◌/◌, ◌∙◌, ◌≡◌, ◌≤◌}
use Rattle.hd_pool.proofs.PoolCalls.{opened_empty}
use Rattle.hd_pool.proofs.WholeBlocks.{opened_wholes}
use Rattle.hd_pool.proofs.pool.Pool.open.Goals as goal

all : (c : goal.In-Ok) → c.in-Ok.kinds.items ≡ replicate (c.args.blocks + 1) None
all c = search rules

none : (c : goal.In-Ok) (b : ℕ) → kind_at c.in-Ok.kinds.items b ≡ None
none c b = ap (λ xs. get_or xs b None) (all c) ∙ get_or-replicate_None (c.args.blocks + 1) b

long : (c : goal.In-Ok) → length c.in-Ok.kinds.items ≡ c.args.blocks + 1
long c = omega (arith, c.in-Ok.ensures.len, c.in-Ok.kinds.ok.0)

room : (c : goal.In-Ok) → ◌≡◌ {A = NumberSet} (record { room = ROWS * (c.args.blocks + 1); members = empty })
    (record { room = ROWS * length c.in-Ok.kinds.items; members = empty })
room c = ap (λ n. record { room = ROWS * n; members = empty }) (sym (long c))

wide : (stride : ℕ) (s : NumberSet) → s ≡ record { room = BITS * (KINDS * stride / BITS + 1); members = empty }
    → KINDS * stride ≤ s.room
wide stride s e = omega (arith, ap (λ (t : NumberSet). t.room) e)

pub invariant_of-result : goal.invariant_of-result
invariant_of-result c =
    let ready = c.in_ok-ready.ready in
    let is = ap (λ (r : KindBlocks). r.stride) c.in_ok-ready.ensures in (
      opened_empty c.in-Ok.kinds.items c.in_ok-free.free ready (none c) (omega (arith, long c))
          (omega (arith, long c, c.requires)) (omega (arith, long c, is)) (c.in_ok-free.ensures ∙ room c)
          (omega (arith, is, ap (λ (r : KindBlocks). r.room) c.in_ok-ready.ensures))
          (ap (λ (r : KindBlocks). r.members) c.in_ok-ready.ensures),
      opened_wholes c.in-Ok.kinds.items c.in_ok-free.free c.in_ok-wholes.wholes ready.stride (none c)
          (omega (arith, is, wide (c.args.blocks + 1) c.in_ok-wholes.wholes c.in_ok-wholes.ensures))
          (ap (λ (s : NumberSet). s.members) c.in_ok-wholes.ensures),
    )

pub returns-in-Ok : goal.returns-in-Ok
returns-in-Ok c =
    let blocks : length c.in-Ok.kinds.items - 1 ≡ c.args.blocks = omega (arith, long c) in
    λ i. record {
      blocks = blocks i;
      kinds = by_index-empty c.in-Ok.kinds.items (none c) i;
      free = ap (λ (s : NumberSet). s.members) c.in_ok-free.ensures i;
    }
