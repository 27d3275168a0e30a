use Rattle.std.proofs.Common.{List, ap, arith, length, subst, ◌++◌, ◌∙◌, ◌≡◌}
use Rattle.std.specs.Prelude.{codes, decimal}
use Rattle.std.proofs.lemmas.Result.{IfOk-weaker}
use Rattle.hd_links.specs.Graph.{named}
use Rattle.hd_links.specs.declared.links.Link.{Link}
use Rattle.hd_path.specs.Lines.{anchor_line, path_line}
use Rattle.hd_path.specs.Inside.{AnchorIn}
use Rattle.hd_path.specs.Inside.{WritesChain, WritesEdges}
use Rattle.hd_path.proofs.ChainLines.{three_texts}
use Rattle.hd_path.proofs.paths.push_chain.Goals as goal

pub returns : goal.returns
returns c =
    let chain = c.args.chain.now in
    let g = c.args.graph.now in
    let old = c.args.text.now.items in
    let count : c.len.result ≡ length chain.rest.items = omega (arith, chain.rest.ok.0) in
    let headed : c.push_length.new.text.items
    ≡ old ++ path_line c.args.id (codes "edges " ++ decimal (length chain.rest.items)) =
    c.in_ok-push_length.ensures
    ∙ ap (λ n. old ++ path_line c.args.id (codes "edges " ++ decimal n)) count in
    IfOk-weaker c.push_edges.result
    (λ _. WritesEdges g chain.first chain.rest.items c.push_anchor.new.text.items
    c.push_edges.new.text.items)
    (λ _. WritesChain c.args.seen.now g c.args.id chain old c.push_edges.new.text.items)
    (λ _ w. record {
      name = c.anchor_of.result;
      lines = w.0;
      is_name = subst
          (λ (ls : List Link). AnchorIn c.args.seen.now.statics ls (named chain.first) c.anchor_of.result)
          c.deref.ensures.value c.anchor_of.ensures;
      are_lines = w.2;
      writes = three_texts old (path_line c.args.id (codes "edges " ++ decimal (length chain.rest.items)))
          (anchor_line c.anchor_of.result (named chain.first)) w.0 c.push_length.new.text.items
          c.push_anchor.new.text.items c.push_edges.new.text.items headed c.in_ok-push_anchor.ensures w.1;
    }) c.push_edges.ensures
