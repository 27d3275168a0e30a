use Rattle.std.proofs.Common.{Global, List, Option, Vec, [], ap, option_map, subst, sym, unwrap_or, ℕ, ◌++◌, ◌∙◌, ◌∷◌}
use Rattle.std.specs.FinMap as map
use Rattle.std.proofs.lemmas.Result.{MatchResult-weaker}
use Rattle.hd_plain.proofs.AttachedLists.{adds_one}
use Rattle.hd_plain.specs.Inside.{Adds, pair_of}
use Rattle.hd_plain.proofs.marks.Attached.add.Goals as goal

pub returns-in-Ok : goal.returns-in-Ok
returns-in-Ok c =
    let from = c.in-Some.from.0 in
    let to = c.in-Some-secondary.to.0 in
    let old = c.args.self.now.lists in
    let list = c.push.new.self in
    let items = c.in-Ok.ensures.items
    ∙ ap (λ (l : List ℕ). l ++ to ∷ [])
    (c.or_empty-list.ensures
    ∙ ap (λ (o : Option (Vec ℕ Global)). unwrap_or (option_map (λ l. l.items) o) [])
    c.remove.ensures.1) in
    MatchResult-weaker c.insert.result c.insert.ensures (λ _ e.
    subst (λ ps. Adds c.args.self.now (record { lists = c.insert.new.self }) ps)
    (sym (λ i. pair_of (c.in-Some.is i) (c.in-Some-secondary.is i)))
    (subst (λ m. Adds c.args.self.now (record { lists = m }) ((from, to) ∷ []))
    (sym (e ∙ ap (λ m. map.insert m from list) c.remove.ensures.0))
    (adds_one old list from to items))) (λ _ _. tt)
