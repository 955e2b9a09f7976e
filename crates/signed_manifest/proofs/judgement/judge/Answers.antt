use Rattle.std.proofs.Common.{◌∙◌}
use Rattle.signed_manifest.proofs.Judging.{wrong_signed, found}
use Rattle.signed_manifest.proofs.judgement.judge.Goals as goal

pub returns-in-Err-clause-signed : goal.returns-in-Err-clause-signed
returns-in-Err-clause-signed c s = rw c.verdict_of.ensures (wrong_signed c.args.key.now s.moduli c.in-Err.fault s.spelled c.in-Err.ensures.refused)

pub returns-clause-signed : goal.returns-clause-signed
returns-clause-signed c s =
    absurd (found c.args.key.now c.args.manifest.now c.args.signature.now c.in-Ok.keys.items c.as_slice.result.now c.in-Ok-read_base64.signature.items c.bytes.result.now c.as_slice-2.result.now c.fits_one.result s c.in-Ok.ensures.read c.as_slice.ensures.value c.in-Ok-read_base64.ensures.read c.as_slice-2.ensures.value (c.bytes.ensures.bytes ∙ c.sum_of-sum.ensures) c.fits_one.ensures.1 c.if-fits_one.false)
