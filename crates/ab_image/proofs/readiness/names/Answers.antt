use Rattle.std.proofs.Common.{◌∙◌, ap, drop, take}
use Rattle.std.specs.Int.{w64, from_be_bytes}
use Rattle.std.specs.Str.{bytes_eq}
use Rattle.ab_image.proofs.Ready.{names-both}
use Rattle.ab_image.proofs.readiness.names.Goals as goal

pub returns-then-length_in-most : goal.returns-then-length_in-most
returns-then-length_in-most c =
    let bytes = c.args.bytes.now in
    names-both c.length_in.result (from_be_bytes w64 (take 8 bytes)) c.args.most bytes c.args.sum.now c.eq.result c.told-bytes c.length_in.ensures c.if-length_in-most.true
    (c.eq.ensures ∙ ap (bytes_eq (take 32 (drop 8 bytes))) (c.as_slice.ensures ∙ c.bytes.ensures.bytes))
