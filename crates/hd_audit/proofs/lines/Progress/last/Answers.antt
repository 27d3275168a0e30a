use Rattle.std.proofs.Common.{ap, sym, ◌∙◌}
use Rattle.std.specs.FinMap.{len}
use Rattle.hd_model.specs.Text.{end_text}
use Rattle.hd_audit.specs.declared.lines.Progress.{Progress}
use Rattle.hd_audit.proofs.TakenLines.{not_the_end, past_the_end, the_end}
use Rattle.hd_audit.proofs.lines.Progress.last.Goals as goal

pub returns-then-not-is_line : goal.returns-then-not-is_line
returns-then-not-is_line c = λ lists lines bytes along counted cut.
    let handles_are = c.len-handles.ensures ∙ ap (λ (j : Progress). len j.machine.state.handles) c.self.view_is in
    let objects_are = c.len-objects.ensures ∙ ap (λ (j : Progress). len j.machine.state.objects) c.self.view_is in
    let line_is = c.end_line.ensures
    ∙ ap (λ (j : Progress). end_text c.len-handles.result c.len-objects.result j.collections)
    c.self.view_is in
    not_the_end along bytes c.args.rest.now cut c.requires.whole c.args.lines counted c.cut_line.result.0.now
    c.cut_line.result.1.now c.cut_line.ensures.lines c.len-handles.result c.len-objects.result
    handles_are objects_are c.end_line.result line_is
    c.is_line.result c.is_line.ensures c.if-not-is_line.true

pub returns-then-is_empty : goal.returns-then-is_empty
returns-then-is_empty c = λ lists lines bytes along counted cut.
    let handles_are = c.len-handles.ensures ∙ ap (λ (j : Progress). len j.machine.state.handles) c.self.view_is in
    let objects_are = c.len-objects.ensures ∙ ap (λ (j : Progress). len j.machine.state.objects) c.self.view_is in
    let line_is = c.end_line.ensures
    ∙ ap (λ (j : Progress). end_text c.len-handles.result c.len-objects.result j.collections)
    c.self.view_is in
    the_end along bytes c.args.rest.now cut c.requires.whole c.args.lines counted c.cut_line.result.0.now
    c.cut_line.result.1.now c.cut_line.ensures.lines c.len-handles.result c.len-objects.result
    handles_are objects_are c.end_line.result line_is
    c.is_line.result c.is_line.ensures c.if-not-is_line.false (sym c.is_empty.ensures ∙ c.if-is_empty.true)

pub returns-else-is_empty : goal.returns-else-is_empty
returns-else-is_empty c = λ lists lines bytes along counted cut.
    let handles_are = c.len-handles.ensures ∙ ap (λ (j : Progress). len j.machine.state.handles) c.self.view_is in
    let objects_are = c.len-objects.ensures ∙ ap (λ (j : Progress). len j.machine.state.objects) c.self.view_is in
    let line_is = c.end_line.ensures
    ∙ ap (λ (j : Progress). end_text c.len-handles.result c.len-objects.result j.collections)
    c.self.view_is in
    past_the_end along bytes c.args.rest.now cut c.requires.whole c.args.lines counted
    c.cut_line.result.0.now c.cut_line.result.1.now c.cut_line.ensures.lines c.len-handles.result
    c.len-objects.result handles_are objects_are c.end_line.result
    line_is c.is_line.result c.is_line.ensures c.if-not-is_line.false
    (sym c.is_empty.ensures ∙ c.if-is_empty.false)
