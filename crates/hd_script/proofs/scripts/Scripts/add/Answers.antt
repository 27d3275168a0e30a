use Rattle.hd_script.proofs.Basics.{Cmd, List, MOST_COMMANDS, [], ap, contents, get_or, length, set, sum_by, ◌++◌, ◌<◌, ◌∙◌, ◌∷◌, ◌≡◌}
use Rattle.hd_script.proofs.CallerLists.{written, written_counted, unwritten_counted}
use Rattle.hd_script.proofs.scripts.Scripts.add.Goals as goal

pub invariant_of-self : goal.invariant_of-self
invariant_of-self c =
    let lists = c.self.inside.lists.items in
    let within : c.args.caller < length (contents lists) = rw c.self.view_is c.requires.caller in
    unwritten_counted lists c.args.caller c.index_mut.result.now c.push.new.self within
    c.index_mut.ensures.value c.self.inside.total c.in_err-push.ensures.items c.self.invariant

pub returns-in_err-push-clause-lists : goal.returns-in_err-push-clause-lists
returns-in_err-push-clause-lists c =
    let lists = c.self.inside.lists.items in
    let within : c.args.caller < length (contents lists) = rw c.self.view_is c.requires.caller in
    (unwritten_counted lists c.args.caller c.index_mut.result.now c.push.new.self within
    c.index_mut.ensures.value c.self.inside.total c.in_err-push.ensures.items c.self.invariant).right

pub invariant_of-self-2 : goal.invariant_of-self-2
invariant_of-self-2 c =
    let lists = c.self.inside.lists.items in
    let within : c.args.caller < length (contents lists) = rw c.self.view_is c.requires.caller in
    let room : sum_by length (contents lists) < MOST_COMMANDS = rw c.self.view_is c.requires.room in
    written_counted lists c.args.caller c.index_mut.result.now c.push.new.self within
    c.index_mut.ensures.value c.args.cmd c.self.inside.total c.in_ok-push.ensures.items c.self.invariant
    c.requires.valid room

pub returns-clause-lists : goal.returns-clause-lists
returns-clause-lists c =
    let lists = c.self.inside.lists.items in
    let within : c.args.caller < length (contents lists) = rw c.self.view_is c.requires.caller in
    let room : sum_by length (contents lists) < MOST_COMMANDS = rw c.self.view_is c.requires.room in
    (written_counted lists c.args.caller c.index_mut.result.now c.push.new.self within
    c.index_mut.ensures.value c.args.cmd c.self.inside.total c.in_ok-push.ensures.items c.self.invariant
    c.requires.valid room).right

pub returns-clause-added : goal.returns-clause-added
returns-clause-added c =
    let lists = c.self.inside.lists.items in
    let seen : contents lists ≡ c.args.self.now = c.self.view_is in
    let within : c.args.caller < length (contents lists) = rw seen c.requires.caller in
    written lists c.args.caller c.index_mut.result.now c.push.new.self within c.index_mut.ensures.value
    c.args.cmd c.in_ok-push.ensures.items
    ∙ ap (λ (lists : List (List Cmd)).
    set lists c.args.caller (get_or lists c.args.caller [] ++ c.args.cmd ∷ [])) seen
