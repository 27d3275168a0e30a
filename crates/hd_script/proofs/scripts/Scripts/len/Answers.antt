use Rattle.hd_script.proofs.Basics.{MOST_COMMANDS, ap, arith, contents, length, length-map, ◌<◌, ◌≡◌, ◌≤◌}
use Rattle.hd_script.proofs.CallerLists.{listed, list_fits}
use Rattle.hd_script.proofs.scripts.Scripts.len.Goals as goal

few : (c : goal.After-len) → c.len.result ≤ MOST_COMMANDS
few c =
    let lists = c.self.inside.lists.items in
    let list = c.index.result.now in
    let seen : contents lists ≡ c.args.self.now = c.self.view_is in
    let within : c.args.caller < length (contents lists) = rw seen c.requires in
    let placed : c.args.caller < length lists = omega (arith, length-map lists (λ v. v.items), within) in
    let known = ap length (listed lists c.args.caller list placed c.index.ensures) in
    let also = list_fits (contents lists) c.args.caller c.self.invariant.right within in
    omega (arith, c.len.ensures, list.ok.0, known, also)

pub overflow_cast-result : goal.overflow_cast-result
overflow_cast-result c = omega (arith, few c)

pub returns-clause-most : goal.returns-clause-most
returns-clause-most c = few c
