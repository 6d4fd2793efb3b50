use Rattle.meter.proofs.meter.Meter.rest.Goals as goal

pub returns : goal.returns
returns g c = rw (← c.self.view_is) c.self.invariant.rest_is
