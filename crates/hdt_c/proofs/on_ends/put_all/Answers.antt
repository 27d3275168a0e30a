use Rattle.std.proofs.Common.{None, Some, [], ap, append_assoc, arith, get_or, length, length-append, map, replicate, set, suc, sym, ◌++◌, ◌∙◌, ◌∷◌, ◌≡◌}
use Rattle.std.proofs.Math.ListN.{get_or-map}
use Rattle.std.proofs.lemmas.List.{map-append, map-set}
use Rattle.hd_held.specs.declared.held.Held.{Held}
use Rattle.hd_ends.proofs.EndLists.{last_closed, put_last}
use Rattle.hdt_c.proofs.on_ends.put_all.Goals as goal

pub put-requires : goal.put-requires
put-requires c =
    let inv = c.loop-end.invariant in
    let n = length c.pop.new.self.items in
    let at : c.len.result ≡ n = omega (arith, c.len.ensures, c.pop.new.self.ok.0) in
    let popped = c.in-Some.ensures.items in
    let count : length c.loop-end.opened.items ≡ suc n =
    omega (arith, ap length popped, length-append c.pop.new.self.items (c.in-Some.end ∷ [])) in
    let v = c.index-ends-len.result.value in
    sym (get_or-map (λ (h : Held). h.value) c.loop-end.ends c.len.result c.index-ends-len.result)
    ∙ ap (λ vs. get_or vs c.len.result v) (inv.ends ∙ ap (λ k. replicate k None ++ inv.later) count)
    ∙ ap (λ k. get_or (replicate (suc n) None ++ inv.later) k v) at
    ∙ last_closed n v inv.later

pub loop-end-preserved : goal.loop-end-preserved
loop-end-preserved c =
    let inv = c.loop-end.invariant in
    let xs = c.pop.new.self.items in
    let n = length xs in
    let at : c.len.result ≡ n = omega (arith, c.len.ensures, c.pop.new.self.ok.0) in
    let popped = c.in-Some.ensures.items in
    let count : length c.loop-end.opened.items ≡ suc n =
    omega (arith, ap length popped, length-append xs (c.in-Some.end ∷ [])) in
    let some = Some c.in-Some.end.value in
    record {
      later = some ∷ inv.later;
      ends = map-set (λ (h : Held). h.value) c.loop-end.ends c.len.result c.put.new.held
          ∙ ap (λ v. set (map (λ (h : Held). h.value) c.loop-end.ends) c.len.result v) c.put.ensures
          ∙ ap (λ vs. set vs c.len.result some) (inv.ends ∙ ap (λ k. replicate k None ++ inv.later) count)
          ∙ ap (λ k. set (replicate (suc n) None ++ inv.later) k some) at
          ∙ put_last n some inv.later;
      all = sym (append_assoc (map (λ end. Some end.value) xs) (some ∷ []) inv.later)
          ∙ ap (λ l. l ++ inv.later) (sym (map-append (λ end. Some end.value) xs (c.in-Some.end ∷ [])))
          ∙ ap (λ l. map (λ end. Some end.value) l ++ inv.later) (sym popped)
          ∙ inv.all;
    }
