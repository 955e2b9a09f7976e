use Rattle.std.proofs.Common.{◌∙◌, ap, arith}
use Rattle.std.specs.Int.{w64, from_be_bytes}
use Rattle.ab_image.proofs.Ready.{take-eight}
use Rattle.ab_image.proofs.readiness.length_in.Goals as goal

pub returns : goal.returns
returns c = c.from_be_bytes.ensures ∙ ap (from_be_bytes w64) (take-eight c.args.bytes.now (omega (arith, c.told-bytes)))
