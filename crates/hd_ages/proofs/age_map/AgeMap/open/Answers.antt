use Rattle.hd_ages.proofs.Basics.{All, All-replicate, IsWord, ages_of, ap, arith, length, refl, replicate, subst, sym, ℕ, ◌*◌, ◌∙◌, ◌≡◌, ◌≤◌}
use Rattle.std.proofs.lemmas.List.{length-replicate}
use Rattle.hd_ages.proofs.BlockAges.{ages_of-replicate}
use Rattle.hd_ages.proofs.YoungBlocks.{none_young}
use Rattle.hd_ages.proofs.age_map.AgeMap.open.Goals as goal

pub invariant_of-result : goal.invariant_of-result
invariant_of-result c =
    let words : c.in_ok-words.words.items ≡ replicate c.args.blocks 255 = c.in_ok-words.ensures in
    let ages = ap ages_of words ∙ ages_of-replicate c.args.blocks 255 refl in (
      omega (arith, ap length words, length-replicate {A = ℕ} c.args.blocks 255),
      subst (All IsWord) (sym words) (All-replicate IsWord c.args.blocks 255 (record { holds = refl })),
      omega arith,
      subst (All (λ (age : ℕ). 2 ≤ age)) (sym ages)
          (All-replicate (λ (age : ℕ). 2 ≤ age) (4 * c.args.blocks) 2 (omega arith)),
      none_young 0 c.args.blocks c.in_ok-words.words.items c.in_ok-zero.zero (omega arith) words
          c.in_ok-zero.ensures,
      none_young 1 c.args.blocks c.in_ok-words.words.items c.in_ok-young.young (omega arith) words
          c.in_ok-young.ensures,
    )

pub returns : goal.returns
returns c = ap ages_of c.in_ok-words.ensures ∙ ages_of-replicate c.args.blocks 255 refl
