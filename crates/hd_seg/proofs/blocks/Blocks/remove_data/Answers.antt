use Rattle.hd_seg.proofs.Basics.{ap, arith, get_or_read, ◌∙◌}
use Rattle.hd_seg.proofs.ChainLinks.{is_table}
use Rattle.hd_seg.proofs.DataRemove.{blocks-freed, d_inside, extras_read, extras_was, owner_inside, some_given, unused-freed, view-freed}
use Rattle.std.specs.FinSet.{insert}
use Rattle.hd_seg.proofs.blocks.Blocks.remove_data.Goals as goal

pub index_mut-of-requires : goal.index_mut-of-requires
index_mut-of-requires c =
    omega (
      arith,
      c.self.inside.table.ok.0,
      owner_inside c.self.invariant.0 c.self.view_is c.args.block c.requires.some c.requires.used,
    )

pub unwrap-data-requires : goal.unwrap-data-requires
unwrap-data-requires c =
    extras_read c.self.invariant.0 c.self.view_is c.args.block c.requires.some c.requires.used
    (get_or_read c.self.inside.table.items c.args.block c.index_mut-of.result.now
    (owner_inside c.self.invariant.0 c.self.view_is c.args.block c.requires.some c.requires.used)
    c.index_mut-of.ensures.value _)

pub index_mut-requires : goal.index_mut-requires
index_mut-requires c =
    let of_is = get_or_read c.self.inside.table.items c.args.block c.index_mut-of.result.now
    (owner_inside c.self.invariant.0 c.self.view_is c.args.block c.requires.some c.requires.used)
    c.index_mut-of.ensures.value _ in
    let was = extras_was c.self.invariant.0 c.self.view_is c.args.block c.requires.some c.requires.used of_is
    c.unwrap-data.result c.unwrap-data.ensures in
    omega (
      arith,
      c.self.inside.table.ok.0,
      d_inside c.self.invariant.0 c.self.view_is c.args.block
          c.unwrap-data.result was (c.requires.used c.unwrap-data.result was),
    )

pub overflow_sub-self : goal.overflow_sub-self
overflow_sub-self c =
    let of_is = get_or_read c.self.inside.table.items c.args.block c.index_mut-of.result.now
    (owner_inside c.self.invariant.0 c.self.view_is c.args.block c.requires.some c.requires.used)
    c.index_mut-of.ensures.value _ in
    let was = extras_was c.self.invariant.0 c.self.view_is c.args.block c.requires.some c.requires.used of_is
    c.unwrap-data.result c.unwrap-data.ensures in
    omega (
      arith,
      some_given c.self.invariant.0 c.self.view_is c.args.block c.unwrap-data.result was
          (c.requires.used c.unwrap-data.result was),
    )

pub insert-requires : goal.insert-requires
insert-requires c =
    let of_is = get_or_read c.self.inside.table.items c.args.block c.index_mut-of.result.now
    (owner_inside c.self.invariant.0 c.self.view_is c.args.block c.requires.some c.requires.used)
    c.index_mut-of.ensures.value _ in
    let was = extras_was c.self.invariant.0 c.self.view_is c.args.block c.requires.some c.requires.used of_is
    c.unwrap-data.result c.unwrap-data.ensures in
    omega (
      arith,
      d_inside c.self.invariant.0 c.self.view_is c.args.block c.unwrap-data.result was
          (c.requires.used c.unwrap-data.result was),
      c.self.invariant.0.size,
      c.self.invariant.2.room,
    )

pub invariant_of-self : goal.invariant_of-self
invariant_of-self c =
    let of_is = get_or_read c.self.inside.table.items c.args.block c.index_mut-of.result.now
    (owner_inside c.self.invariant.0 c.self.view_is c.args.block c.requires.some c.requires.used)
    c.index_mut-of.ensures.value _ in
    let was = extras_was c.self.invariant.0 c.self.view_is c.args.block c.requires.some c.requires.used of_is
    c.unwrap-data.result c.unwrap-data.ensures in
    let used = c.requires.used c.unwrap-data.result was in (
      blocks-freed c.self.invariant.0 c.self.view_is c.args.block c.unwrap-data.result was used of_is,
      c.self.invariant.1,
      unused-freed c.self.invariant.0 c.self.view_is c.args.block c.unwrap-data.result was used of_is
          c.self.invariant.2
          (c.insert.ensures
          ∙ ap (λ n. record c.self.inside.unused { members = insert c.self.inside.unused.members n })
          (omega arith)),
    )

pub returns-clause-was : goal.returns-clause-was
returns-clause-was c =
    let of_is = get_or_read c.self.inside.table.items c.args.block c.index_mut-of.result.now
    (owner_inside c.self.invariant.0 c.self.view_is c.args.block c.requires.some c.requires.used)
    c.index_mut-of.ensures.value _ in
    let was = extras_was c.self.invariant.0 c.self.view_is c.args.block c.requires.some c.requires.used of_is
    c.unwrap-data.result c.unwrap-data.ensures in
    was

pub returns-clause-after : goal.returns-clause-after
returns-clause-after c =
    let of_is = get_or_read c.self.inside.table.items c.args.block c.index_mut-of.result.now
    (owner_inside c.self.invariant.0 c.self.view_is c.args.block c.requires.some c.requires.used)
    c.index_mut-of.ensures.value _ in
    let was = extras_was c.self.invariant.0 c.self.view_is c.args.block c.requires.some c.requires.used of_is
    c.unwrap-data.result c.unwrap-data.ensures in
    view-freed c.self.invariant.0 c.self.view_is c.args.block c.unwrap-data.result was
    (c.requires.used c.unwrap-data.result was) of_is

pub returns-clause-table : goal.returns-clause-table
returns-clause-table c = is_table (invariant_of-self c).0
