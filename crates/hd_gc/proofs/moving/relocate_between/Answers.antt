use Rattle.hd_gc.proofs.Basics.{Addr, Contains, Contains-get_or, List, None, Option, ap, arith, forwarding_in, get_or, length, option_map, refl, set, subst, sym, ℕ, ◌<◌, ◌∙◌, ◌≡◌}
use Rattle.std.proofs.Common.{length-set}
use Rattle.hd_gc.specs.Inside.{MovesOn}
use Rattle.hd_ages.proofs.MappedPrefixes.{length-mapped_to, mapped_at, mapped_next, mapped_to}
use Rattle.hd_gc.proofs.moving.relocate_between.Goals as goal

pub loop-i-init : goal.loop-i-init
loop-i-init c = record { long = refl; goes = λ before is. is }

-- roots that are moved in part are as many
long : (f : Addr → Addr) (roots : List (Option Addr)) {now : List (Option Addr)} (k : ℕ)
    → now ≡ mapped_to (option_map f) k roots → length now ≡ length roots
long f roots k is = ap length is ∙ length-mapped_to (option_map f) roots k

pub moved-requires-clause-kept : goal.moved-requires-clause-kept
moved-requires-clause-kept c = λ x is.
    let f : Addr → Addr = forwarding_in c.args.plan.now in
    let was = c.requires.kept in
    let i = c.loop-i.i in
    let now = c.loop-i.invariant.goes was.before was.moved in
    let low : i < length was.before =
    omega (arith, long f was.before c.args.from was.moved, c.requires.within) in
    was.kept x
    (subst (λ v. Contains was.before v)
    (sym (mapped_at (option_map f) was.before i None low) ∙ ap (λ xs. get_or xs i None) (sym now) ∙ is)
    (Contains-get_or was.before i None low))

pub loop-i-preserved : goal.loop-i-preserved
loop-i-preserved c = record {
  long = length-set c.loop-i.roots c.loop-i.i c.moved.result ∙ c.loop-i.invariant.long;
  goes = λ before is.
      let f : Addr → Addr = forwarding_in c.args.plan.now in
      let i = c.loop-i.i in
      let now = c.loop-i.invariant.goes before is in
      let low : i < length before = omega (arith, long f before c.args.from is, c.requires.within) in
      let value : c.moved.result ≡ option_map f (get_or before i None) =
      c.moved.ensures
      ∙ ap (option_map f) (ap (λ xs. get_or xs i None) now ∙ mapped_at (option_map f) before i None low) in
      (λ j. set (now j) i (value j)) ∙ mapped_next (option_map f) before i None low;
}

pub returns : goal.returns
returns c =
    subst (λ n. MovesOn c.args.plan.now c.args.from n c.args.roots.now c.loop-i.roots) (omega arith)
    c.loop-i.invariant.goes
