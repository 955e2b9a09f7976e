use Rattle.std.proofs.Common.{◌∙◌}
use Rattle.record_codec.specs.Spelling.{short_text}
use Rattle.record_codec.proofs.Puts.{Puts-more, room-more}
use Rattle.record_codec.proofs.writer.put_names.Goals as goal

pub put_short-at-requires-clause-fits : goal.put_short-at-requires-clause-fits
put_short-at-requires-clause-fits c = rw (c.loop-name.auto.into, (c.bytes.ensures.bytes ∙ c.name.ensures)) (room-more short_text c.args.names.now c.loop-name.name-index c.name-item.result c.loop-name-test.true c.name-item.is c.args.into.now c.args.at c.loop-name.into c.loop-name.at c.loop-name.invariant c.requires)

pub loop-name-preserved : goal.loop-name-preserved
loop-name-preserved c = Puts-more short_text c.args.names.now c.loop-name.name-index c.name-item.result c.loop-name-test.true c.name-item.is c.args.into.now c.args.at c.loop-name.into c.loop-name.at _ _ c.loop-name.invariant (rw (c.bytes.ensures.bytes ∙ c.name.ensures) at c.put_short-at.ensures)
