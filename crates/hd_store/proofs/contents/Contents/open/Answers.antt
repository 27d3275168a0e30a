use Rattle.hd_store.proofs.StoreWords.{FinMap, Id, IsStored, None, Option, machine_of, nat_cmp, refl, replicate, subst, ◌≡◌}
use Rattle.hd_store.specs.Inside.{HasWeakRoom, IsFirst}
use Rattle.hd_store.proofs.StoreOpen.{opened, are_opened, stored-opened, first-opened}
use Rattle.hd_store.proofs.contents.Contents.open.Goals as goal
use Rattle.hd_model.specs.declared.limits.TheConstants.{REGISTERS}

-- the parts are as they were made
made : (c : goal.In_ok-table)
    → opened c.args.heap c.args.blocks c.args.callers c.in_ok-table.weak.blocks c.in_ok-table.weak.buckets
    ≡ (record {
      heap = c.in_ok-heap.heap;
      table = c.in_ok-table.table;
      ages = c.in_ok-table.ages;
      weak = c.in_ok-table.weak;
      queue = c.in_ok-heap.queue;
      roots = c.in_ok-roots.roots.items;
      handle_registers = c.in_ok-roots.handle_registers.items;
      board = replicate REGISTERS None;
      serials = c.in_ok-roots.serials.items;
    })
made c =
    are_opened c.args.heap c.args.blocks c.args.callers c.in_ok-table.weak.blocks c.in_ok-table.weak.buckets _
    c.in_ok-heap.ensures.0 c.in_ok-table.ensures.0
    c.in_ok-table.ensures.1
    (λ i. record {
      blocks = c.in_ok-table.weak.blocks;
      buckets = c.in_ok-table.weak.buckets;
      held = c.in_ok-table.ensures.2 i;
    }) c.in_ok-heap.ensures.1 c.in_ok-roots.ensures.0
    c.in_ok-roots.ensures.1 refl c.in_ok-roots.ensures.2

pub invariant_of-result : goal.invariant_of-result
invariant_of-result c =
    subst IsStored (made c)
    (stored-opened c.args.heap c.args.blocks c.args.callers c.in_ok-table.weak.blocks
    c.in_ok-table.weak.buckets c.requires.heap c.requires.blocks
    (subst (λ (held : FinMap nat_cmp (Option Id)). HasWeakRoom c.args.blocks c.args.callers
    (record c.in_ok-table.weak { held = held })) c.in_ok-table.ensures.2 c.in_ok-table.ensures.3))

pub returns : goal.returns
returns c =
    subst (λ f. IsFirst (record { heap = c.args.heap; blocks = c.args.blocks; callers = c.args.callers })
    (machine_of f)) (made c) (first-opened c.args.heap c.args.blocks c.args.callers c.in_ok-table.weak.blocks
    c.in_ok-table.weak.buckets)
