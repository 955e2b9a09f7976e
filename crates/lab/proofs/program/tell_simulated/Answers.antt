use Rattle.std.proofs.Common.{◌∙◌}
use Rattle.lab.proofs.Telling.{tells-counts, cuts-counts, tells-want, cuts-want}
use Rattle.lab.proofs.program.tell_simulated.Goals as goal

pub returns-in-Ok-put : goal.returns-in-Ok-put
returns-in-Ok-put g c = tells-counts c.args.seed c.args.rounds (g.O.Sink.means c.args.out.now) (g.O.Sink.means c.put.new.self) c.bytes.result.now c.in-Ok.counts c.in-Ok.ensures (c.bytes.ensures.bytes ∙ c.line_of.ensures) c.in-Ok-put.ensures.puts

pub returns-in-Err-put : goal.returns-in-Err-put
returns-in-Err-put g c = cuts-counts c.args.seed c.args.rounds (g.O.Sink.means c.args.out.now) (g.O.Sink.means c.put.new.self) c.bytes.result.now c.in-Ok.counts c.in-Ok.ensures (c.bytes.ensures.bytes ∙ c.line_of.ensures) c.in-Err-put.ensures.puts

pub returns-in-Ok-put-2 : goal.returns-in-Ok-put-2
returns-in-Ok-put-2 g c = tells-want c.args.seed c.args.rounds (g.O.Sink.means c.args.out.now) (g.O.Sink.means c.put-in-Err.new.self) c.in-Ok-put-2.ensures.puts

pub returns-in-Err-put-2 : goal.returns-in-Err-put-2
returns-in-Err-put-2 g c = cuts-want c.args.seed c.args.rounds (g.O.Sink.means c.args.out.now) (g.O.Sink.means c.put-in-Err.new.self) c.in-Err-put-2.ensures.puts
