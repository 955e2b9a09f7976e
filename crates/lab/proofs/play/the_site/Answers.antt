use Rattle.lab.proofs.Beagle.{type-is, site-is}
use Rattle.lab.proofs.play.the_site.Goals as goal

pub returns : goal.returns
returns c = site-is c.in-Ok.device_type c.new.result (type-is c.in-Ok.device_type c.in-Ok.ensures) c.new.ensures
