use Rattle.hd_host.proofs.{GrownCalls.callers_by, GrownFrees.host_trimmed, GrownFrees.may_note_trim, GrownFrees.may_offer, GrownFrees.trims}
use Rattle.hd_host.proofs.Registers.{called_numbers}
use Rattle.hd_host.proofs.host.Host.trim.Goals as goal

pub trim-grown-requires-clause-offer : goal.trim-grown-requires-clause-offer
trim-grown-requires-clause-offer c =
    may_offer c.self.invariant c.self.view_is c.args.kind c.offer-offered.new.pool c.offer-offered.result c.offer-offered.ensures

pub note_slot-requires : goal.note_slot-requires
note_slot-requires c =
    may_note_trim c.self.invariant c.self.view_is c.args.kind c.offer-offered.new.pool c.offer-offered.result c.offer-offered.ensures c.trim-grown.ensures

pub invariant_of-self : goal.invariant_of-self
invariant_of-self c =
    host_trimmed c.self.invariant c.self.view_is c.args.kind c.offer-offered.new.pool c.offer-offered.result c.offer-offered.ensures c.trim-grown.ensures c.note_slot.new.pool c.note_slot.ensures

pub returns-clause-does : goal.returns-clause-does
returns-clause-does c =
    trims c.self.invariant c.self.view_is c.args.kind c.offer-offered.new.pool c.offer-offered.result c.offer-offered.ensures c.trim-grown.ensures c.set.ensures c.given_back.ensures

pub returns-clause-contexts : goal.returns-clause-contexts
returns-clause-contexts c =
    callers_by c.self.invariant c.self.view_is (called_numbers c.trim-grown.ensures)
