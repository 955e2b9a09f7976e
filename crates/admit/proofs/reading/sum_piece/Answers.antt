use Rattle.std.proofs.Common.{◌≤◌, ◌++◌, length, take, drop, arith}
use Rattle.std.proofs.lemmas.List.{take-append-le}
use Rattle.admit.proofs.Pieces.{next_sum}
use Rattle.admit.proofs.reading.sum_piece.Goals as goal

pub returns-clause-next : goal.returns-clause-next
returns-clause-next g c = λ h.
    let fits : c.in_ok-n.n ≤ length c.read.new.into = omega (arith, c.in_ok-n.ensures.most) in
    next_sum (g.S.Source.content c.args.source.now) c.args.i c.args.at c.in_ok-n.n c.read.new.into (take c.in_ok-n.n (c.read.new.into ++ drop c.least-want.result c.args.buffer.now)) c.args.summing.now c.piece.new.self fits (take-append-le c.in_ok-n.n c.read.new.into (drop c.least-want.result c.args.buffer.now) fits) c.in_ok-n.ensures.value c.piece.ensures h
