use Rattle.std.proofs.Common.{List, Option, Some, append-nil, inl, subst, sym, []}
use Rattle.hd_links.specs.Graph.{named}
use Rattle.hd_links.specs.declared.links.Link.{Link}
use Rattle.hd_model.specs.declared.data.Id.{Id}
use Rattle.hd_path.specs.Inside.{LinksToNone, NoIndex}
use Rattle.hd_path.proofs.paths.push_step.Goals as goal

pub returns-in-None : goal.returns-in-None
returns-in-None c =
    let x = named c.args.from in
    let y = named c.args.to in (
      [],
      sym (append-nil c.args.text.now.items),
      inl (
        subst (λ (fs : List (Option Id)). NoIndex fs y) c.fields_at.ensures c.in-None.ensures.0,
        subst (λ (ls : List Link). LinksToNone ls x (Some y)) c.deref.ensures.value c.in-None.ensures.1,
      ),
    )
