use Rattle.device_mem.specs.Mem.{mem_of, follows_plan, is_whole}
use Rattle.lab.proofs.OneBoot.{obeyed-campaign, obeyed-settled}
use Rattle.lab.proofs.boots.obey_after_power_on.Goals as goal

pub returns-clause-campaign : goal.returns-clause-campaign
returns-clause-campaign c = λ room. obeyed-campaign c.args.site.now c.args.command (mem_of c.args.device.now) (mem_of c.power_on.new.self) (mem_of c.obey.new.device) c.args.source.now c.obey.new.source c.obey.result room
    c.requires.obeyed c.power_on.ensures c.obey.ensures.obeyed (follows_plan c.obey.new.device) c.obey.ensures.plan tt (is_whole c.args.device.now) c.obey.ensures.tree c.obey.ensures.source

pub returns-clause-settled : goal.returns-clause-settled
returns-clause-settled c = obeyed-settled c.obey.result c.obey.ensures.obeyed
