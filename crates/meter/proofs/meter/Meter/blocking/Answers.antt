use Rattle.meter.proofs.meter.Meter.blocking.Goals as goal

pub returns : goal.returns
returns g c = rw (← c.self.view_is) c.self.invariant.blocker_is.greatest
