use Rattle.hd_gate.proofs.Basics.{CallerView, List, ap, drop, length, refl, take, ◌++◌, ◌∙◌}
use Rattle.hd_gate.proofs.callers.Callers.all.Goals as goal

pub returns : goal.returns
returns c =
    let list = c.self.inside.list in (
      (
        refl,
        (λ w. ap (λ n. take n (w ++ drop (length w) list.items)) list.ok.0
            ∙ ap (λ (l : List CallerView). take (length l) (w ++ drop (length w) l)) c.self.view_is),
      ),
      record { lends = tt; value = c.as_mut_slice.ensures.value ∙ c.self.view_is },
    )
