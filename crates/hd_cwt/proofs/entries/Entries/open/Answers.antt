use Rattle.hd_cwt.proofs.Basics.{by_index-empty}
use Rattle.hd_cwt.proofs.EntryOpen.{none, opened}
use Rattle.hd_cwt.proofs.entries.Entries.open.Goals as goal

pub invariant_of-result : goal.invariant_of-result
invariant_of-result c =
    opened c.requires.blocks c.requires.buckets c.in_ok-held.held.items c.in_ok-rings.rings.next.items
    c.in_ok-rings.rings.previous.items
    c.in_ok-held.ensures c.in_ok-idle.ensures c.in_ok-rings.ensures.next c.in_ok-rings.ensures.previous
    c.in_ok-rings.ensures.alone c.in_ok-rings.ensures.back

pub returns : goal.returns
returns c = λ i. record {
  blocks = c.args.blocks;
  buckets = c.args.buckets;
  held = by_index-empty c.in_ok-held.held.items
      (none c.requires.blocks c.requires.buckets c.in_ok-held.held.items c.in_ok-rings.rings.next.items
      c.in_ok-rings.rings.previous.items
      c.in_ok-held.ensures c.in_ok-idle.ensures c.in_ok-rings.ensures.next c.in_ok-rings.ensures.previous
      c.in_ok-rings.ensures.alone c.in_ok-rings.ensures.back) i;
}
