use Rattle.std.proofs.Common.{◌≡◌, ◌++◌, length, sym, subst, arith}
use Rattle.std.specs.Int.{w64, to_be_bytes}
use Rattle.std.proofs.lemmas.List.{length-append}
use Rattle.ab_image.specs.Layout.{record_size, IsBeside}
use Rattle.ab_image.specs.declared.report.AbAct.{AbAct}
use Rattle.ab_image.specs.declared.report.AbAct.TheVariants.{Done}
use Rattle.ab_image.specs.Taking.{Spares}
use Rattle.ab_image.proofs.Filling.{stop-ends}
use Rattle.ab_image.proofs.Storing.{image-beside, puts-done, puts-stopped, whole-told}
use Rattle.ab_image.proofs.downloading.put_image.Goals as goal

pub returns-in-Ok-write_record-clause-spares : goal.returns-in-Ok-write_record-clause-spares
returns-in-Ok-write_record-clause-spares g c =
    let image = c.args.image.now in
    let record_bytes = to_be_bytes w64 image.size ++ c.in-Ok.sum in
    let long : length record_bytes ≡ record_size = omega (arith, length-append (to_be_bytes w64 image.size) c.in-Ok.sum, c.write_record.ensures.long) in
    puts-done c.args.target image.size record_bytes (g.B.Blocks.means c.args.blocks.now) (g.B.Blocks.means c.copy_image.new.blocks) (g.B.Blocks.means c.write_record.new.blocks) _ c.requires.fits long c.in-Ok.ensures.spares c.in-Ok-write_record.ensures.sets c.in-Ok-write_record.ensures.sets.ends

pub returns-in-Err-write_record-clause-spares : goal.returns-in-Err-write_record-clause-spares
returns-in-Err-write_record-clause-spares g c =
    let image = c.args.image.now in
    let old = g.B.Blocks.means c.args.blocks.now in
    let mid = g.B.Blocks.means c.copy_image.new.blocks in
    let new = g.B.Blocks.means c.write_record.new.blocks in
    let record_bytes = to_be_bytes w64 image.size ++ c.in-Ok.sum in
    let long : length record_bytes ≡ record_size = omega (arith, length-append (to_be_bytes w64 image.size) c.in-Ok.sum, c.write_record.ensures.long) in
    subst (λ (stop : AbAct). Spares (IsBeside old.size c.args.target) stop old new) (sym c.stopped.ensures)
    (puts-stopped c.args.target image.size record_bytes old mid new _ c.requires.fits long c.in-Ok.ensures.spares c.in-Err-write_record.ensures.sets c.in-Err-write_record.down (stop-ends (Unit {0}) c.in-Err-write_record.down mid new c.in-Err-write_record.ensures.sets.ends))

pub returns-in-Ok-write_record-clause-whole : goal.returns-in-Ok-write_record-clause-whole
returns-in-Ok-write_record-clause-whole g c =
    let image = c.args.image.now in
    let old = g.B.Blocks.means c.args.blocks.now in
    let mid = g.B.Blocks.means c.copy_image.new.blocks in
    let new = g.B.Blocks.means c.write_record.new.blocks in
    λ e. whole-told (g.S.Source.content c.args.source.now) image.file old.size image.size c.in-Ok.sum c.args.target mid new (g.met.B.Blocks.whole c.copy_image.new.blocks) (g.met.B.Blocks.whole c.write_record.new.blocks) c.in-Ok.ensures.spares.ends.size c.in-Ok-write_record.ensures.sets.ends.size c.requires.fits c.write_record.ensures.long
    c.requires.size c.in-Ok.ensures.sum c.in-Ok.ensures.copied c.in-Ok-write_record.ensures.sets.area

pub returns-in-Err-clause-spares : goal.returns-in-Err-clause-spares
returns-in-Err-clause-spares g c =
    let old = g.B.Blocks.means c.args.blocks.now in
    image-beside c.args.target c.args.image.now.size old (g.B.Blocks.means c.copy_image.new.blocks) c.requires.fits c.in-Err.stop c.in-Err.ensures.spares

pub returns-then-not-is-clause-spares : goal.returns-then-not-is-clause-spares
returns-then-not-is-clause-spares g c =
    let old = g.B.Blocks.means c.args.blocks.now in
    let s = image-beside c.args.target c.args.image.now.size old (g.B.Blocks.means c.copy_image.new.blocks) c.requires.fits Done c.in-Ok.ensures.spares in
    record { ends = s.ends; touches = s.touches; told = s.told }
