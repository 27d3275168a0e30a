use Rattle.hd_print.proofs.Basics.{List, [], ap, command_text, script_of, ℕ, ◌++◌, ◌∙◌, ◌∷◌}
use Rattle.hd_print.proofs.CommandReadBack.{command_again}
use Rattle.hd_print.proofs.command.command_line.Goals as goal

pub returns-clause-read : goal.returns-clause-read
returns-clause-read c =
    let command = c.args.cmd in
    let text = c.push_command.ensures.text
    ∙ ap (λ (line : List ℕ). line ++ command_text command) c.new-line.ensures in
    ap script_of (c.push_str.ensures ∙ ap (λ (line : List ℕ). line ++ 10 ∷ []) text)
    ∙ command_again command c.requires
