use Rattle.hd_script.proofs.Basics.{ap, arith, contents, generated_list, map, range_with_len, ℕ, ◌∙◌, ◌≡◌}
use Rattle.hd_script.proofs.LoadRounds.{caller_more, all_callers}
use Rattle.hd_script.proofs.generated.all_lists.Goals as goal

pub loop-caller-preserved : goal.loop-caller-preserved
loop-caller-preserved c =
    ap contents c.in_ok-push.ensures.items
    ∙ caller_more c.loop-caller.lists.items c.in_ok-list_of.field-0 c.args.rounds c.loop-caller.caller
    c.loop-caller.invariant c.in_ok-list_of.ensures

pub returns : goal.returns
returns c =
    let rounds = c.args.rounds in
    let four : c.loop-caller.caller ≡ 4 = omega arith in
    all_callers (contents c.loop-caller.lists.items) rounds
    (c.loop-caller.invariant ∙ ap (λ (n : ℕ). map (generated_list rounds) (range_with_len 0 n)) four)
