use Rattle.std.proofs.Common.{arith}
use Rattle.io_model.proofs.Pieces.{next_read}
use Rattle.io_model.proofs.reading.read_piece.Goals as goal

pub returns-clause-next : goal.returns-clause-next
returns-clause-next g c = λ h. next_read (g.S.Source.content c.args.source.now) c.args.i c.args.at c.in_ok-n.n c.args.into.now c.read.new.into _ (omega arith) (omega (arith, c.in_ok-n.ensures.most)) c.in_ok-n.ensures.value h
