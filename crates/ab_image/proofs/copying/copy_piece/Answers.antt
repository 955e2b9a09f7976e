use Rattle.std.proofs.Common.{◌≤◌, ◌++◌, length, take, drop, sym, subst, arith}
use Rattle.std.proofs.lemmas.List.{take-append-le, length-take}
use Rattle.device_model.specs.Disk.{IsApart}
use Rattle.ab_image.specs.declared.report.AbAct.{AbAct}
use Rattle.ab_image.specs.Taking.{Spares}
use Rattle.ab_image.proofs.Filling.{range-written, range-stopped, piece-part, sum-next}
use Rattle.ab_image.proofs.copying.copy_piece.Goals as goal

pub returns-in-Ok-write-clause-spares : goal.returns-in-Ok-write-clause-spares
returns-in-Ok-write-clause-spares g c =
    let rest = c.args.rest in
    let fits : c.in-Ok.n ≤ length c.read.new.into = omega (arith, c.in-Ok.ensures.most) in
    let piece = take c.in-Ok.n (c.read.new.into ++ drop c.least-want.result c.args.buffer.now) in
    let few : c.in-Ok.n ≤ rest.left = omega (arith, c.in-Ok.ensures.most, c.least-want.ensures.most, length-take c.least-want.result c.args.buffer.now) in
    let short : length piece ≤ rest.left = omega (arith, length-take c.in-Ok.n (c.read.new.into ++ drop c.least-want.result c.args.buffer.now)) in
    range-written rest.to rest.left piece (g.B.Blocks.means c.args.blocks.now) (g.B.Blocks.means c.write.new.self) (g.met.B.Blocks.whole c.args.blocks.now) c.requires.on c.requires.range short (Unit {0}) _ c.in-Ok-write.ensures.ends

pub returns-in-Ok-write-clause-summed : goal.returns-in-Ok-write-clause-summed
returns-in-Ok-write-clause-summed g c =
    let rest = c.args.rest in
    let content = g.S.Source.content c.args.source.now in
    let fits : c.in-Ok.n ≤ length c.read.new.into = omega (arith, c.in-Ok.ensures.most) in
    let piece = take c.in-Ok.n (c.read.new.into ++ drop c.least-want.result c.args.buffer.now) in
    sum-next content rest.file rest.at c.in-Ok.n piece c.args.summing.now c.piece.new.self
    (piece-part content rest.file rest.at c.in-Ok.n c.read.new.into piece fits (take-append-le c.in-Ok.n c.read.new.into (drop c.least-want.result c.args.buffer.now) fits) c.in-Ok.ensures.value)
    c.piece.ensures

pub returns-in-Err-write-clause-spares : goal.returns-in-Err-write-clause-spares
returns-in-Err-write-clause-spares g c =
    let rest = c.args.rest in
    let old = g.B.Blocks.means c.args.blocks.now in
    let new = g.B.Blocks.means c.write.new.self in
    let fits : c.in-Ok.n ≤ length c.read.new.into = omega (arith, c.in-Ok.ensures.most) in
    let piece = take c.in-Ok.n (c.read.new.into ++ drop c.least-want.result c.args.buffer.now) in
    let few : c.in-Ok.n ≤ rest.left = omega (arith, c.in-Ok.ensures.most, c.least-want.ensures.most, length-take c.least-want.result c.args.buffer.now) in
    let short : length piece ≤ rest.left = omega (arith, length-take c.in-Ok.n (c.read.new.into ++ drop c.least-want.result c.args.buffer.now)) in
    subst (λ (stop : AbAct). Spares (IsApart rest.to rest.left) stop old new) (sym c.stopped.ensures)
    (range-stopped rest.to rest.left piece old new (g.met.B.Blocks.whole c.args.blocks.now) c.requires.on c.requires.range short (Unit {0}) c.in-Err-write.down c.in-Err-write.ensures.ends)
