-- A load into a register, with the value of what is loaded.
use Rattle.std.proofs.Common.{Option, ap, sym, ℕ, ◌∙◌, ◌≡◌}
use Rattle.hd_model.specs.{declared.data.Id.Id, State.with_register}
use Rattle.hd_commands.specs.Seen.{Seen}
use Rattle.hd_store.specs.Hosted.{HasLoaded, value_of}
use Rattle.hd_store.specs.declared.hosted.Loaded.{Loaded}

pub has-loaded : {N R : Type 0} (p q : Seen N R) (caller d : ℕ) (l : Loaded) {o : Option Id} → l.id ≡ o
    → l.value ≡ value_of p.state o → q ≡ record p { state = with_register p.state caller d o }
    → HasLoaded p q caller d l
has-loaded p q caller d l {o} is value wrote = record {
  state = wrote ∙ (λ i. record p { state = with_register p.state caller d (sym is i) });
  value = value ∙ sym (ap (value_of p.state) is);
}
