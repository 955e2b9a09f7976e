use Rattle.std.proofs.Common.{sym, subst}
use Rattle.io_model.specs.MemSource.{Shelf}
use Rattle.device_mem.specs.Mem.{mem_of, is_whole}
use Rattle.device_mem.specs.MemState.{MemState}
use Rattle.client_words.specs.declared.command.Command.TheVariants.{Install}
use Rattle.flow_table.specs.declared.position.Outcome.{Outcome}
use Rattle.lab.specs.Simulation.{Played, new_source}
use Rattle.lab.specs.Trees.{tree_of}
use Rattle.lab.proofs.Playing.{Sofar, sofar-none, sofar-room, sofar-obeys, sofar-more, sofar-next, sofar-few, step-boot, played}
use Rattle.lab.proofs.Rows.{err-is-no-ok}
use Rattle.lab.proofs.play.play.Goals as goal

pub loop-i-init : goal.loop-i-init
loop-i-init c =
    subst (λ (s : Shelf). Sofar c.args.round 0 Install (mem_of c.in_ok-device.device) s) (sym c.in_ok-source.ensures)
    (subst (λ (m : MemState). Sofar c.args.round 0 Install m (new_source (tree_of c.args.round.lengths))) (sym c.in_ok-device.ensures) (sofar-none c.args.round))

pub boot-requires-clause-room : goal.boot-requires-clause-room
boot-requires-clause-room c = sofar-room c.loop-i.invariant

pub boot-requires-clause-obeyed : goal.boot-requires-clause-obeyed
boot-requires-clause-obeyed c = sofar-obeys c.loop-i.invariant

pub returns-in_err-run : goal.returns-in_err-run
returns-in_err-run c = err-is-no-ok c.from_residual-in_err-run.result (λ (o : Outcome). Played c.args.round o) c.from_residual-in_err-run.ensures.0

pub returns-in-Ends : goal.returns-in-Ends
returns-in-Ends c =
    played c.args.round c.loop-i._i c.loop-i.command (mem_of c.loop-i.device) (mem_of c.boot.new.device) c.loop-i.source c.boot.new.source c.in_ok-run.run' c.loop-i.invariant
    (step-boot c.in_ok-site.site c.loop-i.command (mem_of c.loop-i.device) (mem_of c.boot.new.device) c.loop-i.source c.boot.new.source c.in_ok-run.run' c.in_ok-run.ensures.campaign.0 c.in_ok-site.ensures c.in_ok-run.ensures.campaign.1 c.in_ok-run.ensures.campaign.2)
    c.in-Ends.outcome c.in-Ends.ensures tt (is_whole c.boot.new.device) c.in_ok-run.ensures.settled

pub loop-i-preserved : goal.loop-i-preserved
loop-i-preserved c =
    sofar-next (sofar-more c.args.round c.loop-i._i c.loop-i.command (mem_of c.loop-i.device) (mem_of c.boot.new.device) c.loop-i.source c.boot.new.source c.in_ok-run.run' c.loop-i.invariant
    (step-boot c.in_ok-site.site c.loop-i.command (mem_of c.loop-i.device) (mem_of c.boot.new.device) c.loop-i.source c.boot.new.source c.in_ok-run.run' c.in_ok-run.ensures.campaign.0 c.in_ok-site.ensures c.in_ok-run.ensures.campaign.1 c.in_ok-run.ensures.campaign.2)
    c.requires.unplanned c.in-GoesOn.ensures)

pub unreachable-requires : goal.unreachable-requires
unreachable-requires c = sofar-few c.requires.unplanned tt (is_whole c.loop-i.device) c.loop-i._i c.loop-i.invariant c.loop-i-test.false
