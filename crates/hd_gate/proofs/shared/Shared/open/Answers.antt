use Rattle.hd_gate.proofs.Basics.{Handle, Id, Option, State, WorldView, ap, get, get-empty, is_live, is_some, kind_word, nat_cmp, start_of, subst, sym, use_of, ◌||◌, ◌∙◌}
use Rattle.hd_world.specs.StateHeap.{IsOfJournal}
use Rattle.hd_gate.proofs.shared.Shared.open.Goals as goal

pub open-requires-clause-unused : goal.open-requires-clause-unused
open-requires-clause-unused c =
    let state = ap (λ (w : WorldView). w.state) c.in_ok-boxed.ensures ∙ c.requires.start.0 in record {
      nothing_live = λ x. ap (λ (s : State). is_live s x) state
          ∙ ap (λ (o : Option (Handle Id)). is_some o || is_some (get (start_of c.args.world.numbers).weak x))
          (get-empty nat_cmp x) ∙ ap is_some (get-empty nat_cmp x);
      no_kinds = λ b. ap (λ (s : State). kind_word (use_of s b)) state ∙ ap kind_word (get-empty nat_cmp b);
      no_entries = ap (λ (w : WorldView). w.journal) c.in_ok-boxed.ensures ∙ c.requires.start.1;
      sound = subst IsOfJournal (sym c.in_ok-boxed.ensures) c.journal-journal.ensures.sound;
    }
