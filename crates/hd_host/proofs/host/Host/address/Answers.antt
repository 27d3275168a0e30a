use Rattle.hd_model.specs.declared.data.Reply.TheVariants as reply
use Rattle.hd_host.proofs.GrownCalls.{refl, some_context, tried_of}
use Rattle.hd_host.proofs.host.Host.address.Goals as goal

pub returns-clause-does : goal.returns-clause-does
returns-clause-does c =
    tried_of c.self.invariant c.self.view_is (some_context c.self.invariant c.self.view_is)
    c.in-Some.ensures refl refl refl c.self.inside.store reply.Place
    c.reply_address-came.result c.reply_address-came.ensures (λ _. refl) (λ _. refl) _ _ c.settle.ensures
