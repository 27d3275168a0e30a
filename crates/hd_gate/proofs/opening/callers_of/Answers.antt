use Rattle.hd_gate.proofs.Basics.{IsNew, caller_view_of, padded_value, refl, slice_index, ◌∙◌}
use Rattle.hd_gate.proofs.CallerOpen.{are_all, begin, limits_are, first_part, first_seen}
use Rattle.hd_gate.proofs.opening.callers_of.Goals as goal

new_one : (c : goal.In-Ok) → IsNew c.args.custody.now 0 (slice_index c.args.rooms.now 0)
    (caller_view_of c.others.new.first 0 (padded_value c.new-room.result))
new_one c =
    let numbers = c.args.custody.now.numbers in
    let begun = c.args.first.view in
    let v = c.others.new.first.view in
    record {
      is_of = record {
        table = c.in_ok-list.ensures.table ∙ c.requires.seat;
        numbers = limits_are begun v numbers c.requires.starts _ _ c.in_ok-list.ensures.first;
      };
      number = refl;
      part = first_part begun v numbers c.requires.starts _ _ c.in_ok-list.ensures.first;
      seen = first_seen begun v numbers c.requires.starts _ _ c.in_ok-list.ensures.first;
      room = c.new-room.ensures;
    }

pub returns-in-Ok-clause-all : goal.returns-in-Ok-clause-all
returns-in-Ok-clause-all c =
    are_all c.args.custody.now c.args.rooms.now (caller_view_of c.others.new.first 0
    (padded_value c.new-room.result))
    c.in_ok-list.list.items c.insert.new.self.items
    c.in-Ok.ensures.items c.in_ok-list.ensures.count c.requires.callers.2 (new_one c)
    c.in_ok-list.ensures.others

pub returns-in-Ok-clause-begin : goal.returns-in-Ok-clause-begin
returns-in-Ok-clause-begin c =
    begin c.args.custody.now c.args.rooms.now
    (caller_view_of c.others.new.first 0 (padded_value c.new-room.result))
    c.in_ok-list.list.items c.insert.new.self.items
    c.in-Ok.ensures.items c.in_ok-list.ensures.count c.requires.callers.2 (new_one c)
    c.in_ok-list.ensures.others
