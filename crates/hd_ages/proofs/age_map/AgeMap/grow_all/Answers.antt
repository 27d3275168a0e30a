use Rattle.hd_ages.proofs.Basics.{All, arith, min, subst, sym, ℕ, ◌+◌, ◌≡◌, ◌≤◌}
use Rattle.hd_ages.proofs.YoungestAge.{grown_from}
use Rattle.hd_ages.proofs.age_map.AgeMap.grow_all.Goals as goal

pub note_youngest-requires-clause-least : goal.note_youngest-requires-clause-least
note_youngest-requires-clause-least c =
    let y : ℕ = c.self.inside.youngest in
    let least : c.min.result ≡ min (y + 1) 2 = omega (arith, c.min.ensures) in
    let from : All (λ (a : ℕ). y ≤ a) c.args.self.now =
    subst (All (λ (a : ℕ). y ≤ a)) c.self.view_is c.self.invariant.3 in
    subst (λ (m : ℕ). All (λ (a : ℕ). m ≤ a) c.grow_blocks.new.self) (sym least)
    (subst (All (λ (a : ℕ). min (y + 1) 2 ≤ a)) (sym c.grow_blocks.ensures)
    (grown_from y c.args.n c.args.self.now (omega arith) from))
