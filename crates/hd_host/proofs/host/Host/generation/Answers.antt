use Rattle.hd_model.specs.declared.data.Reply.TheVariants as reply
use Rattle.hd_host.proofs.GrownCalls.{refl, tried}
use Rattle.hd_host.proofs.host.Host.generation.Goals as goal

pub returns-clause-does : goal.returns-clause-does
returns-clause-does c =
    tried c.self.invariant c.self.view_is c.requires.context refl refl reply.Generation c.read_generation-came.result c.read_generation-came.ensures
    (λ _. refl) (λ _. refl) _ _ c.settle.ensures
