use Rattle.hd_cwt.proofs.Basics.{HasKey, ap, is_some, keyed_in, refl, rules}
use Rattle.hd_cwt.proofs.KeyChanges.{clear_listed, held_low, keyed_index, last_low, relisted}
use Rattle.hd_cwt.proofs.cwt.Cwt.remove_on.Goals as goal

pub clear-requires : goal.clear-requires
clear-requires g c =
    let has : HasKey c.self.inside.entries c.args.key c.unwrap-slot.result = search rules in
    c.self.invariant.table.within c.unwrap-slot.result (ap is_some has)

pub remove-requires-clause-within : goal.remove-requires-clause-within
remove-requires-clause-within g c =
    let has : HasKey c.self.inside.entries c.args.key c.unwrap-slot.result = search rules in
    held_low c.self.invariant c.unwrap-slot.result (ap is_some has)

pub remove-requires-clause-listed : goal.remove-requires-clause-listed
remove-requires-clause-listed g c =
    let has : HasKey c.self.inside.entries c.args.key c.unwrap-slot.result = search rules in
    keyed_index c.self.invariant c.unwrap-slot.result (ap keyed_in has)

pub remove-requires-clause-last : goal.remove-requires-clause-last
remove-requires-clause-last g c =
    let has : HasKey c.self.inside.entries c.args.key c.unwrap-slot.result = search rules in
    last_low c.self.invariant c.unwrap-slot.result (ap keyed_in has)

pub invariant_of-self : goal.invariant_of-self
invariant_of-self g c =
    let has : HasKey c.self.inside.entries c.args.key c.unwrap-slot.result = search rules in
    relisted (clear_listed c.self.invariant c.unwrap-slot.result (ap keyed_in has) c.remove.ensures.lists)
    c.clear.ensures refl refl c.remove.ensures.capacity
