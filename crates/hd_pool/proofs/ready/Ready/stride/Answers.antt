use Rattle.hd_pool.proofs.ready.Ready.stride.Goals as goal

pub returns-clause-few : goal.returns-clause-few
returns-clause-few c = c.self.invariant.limit
