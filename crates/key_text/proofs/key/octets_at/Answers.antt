use Rattle.std.proofs.Common.{inr, refl}
use Rattle.key_text.proofs.KeyLemmas.{no_frame, no_base64, a_pem}
use Rattle.key_text.proofs.key.octets_at.Goals as goal

pub returns-in_default-clause-refused : goal.returns-in_default-clause-refused
returns-in_default-clause-refused c = inr (refl, no_frame c.args.text.now c.in_default.ensures)

pub returns-in-Ok-clause-read : goal.returns-in-Ok-clause-read
returns-in-Ok-clause-read c = a_pem c.args.text.now c.in-Some.body.now c.in-Ok.octets.items c.in-Some.rest.now c.in-Some.ensures c.in-Ok.ensures.read

pub returns-in-Err-NotBase64-clause-refused : goal.returns-in-Err-NotBase64-clause-refused
returns-in-Err-NotBase64-clause-refused c = inr (refl, no_base64 c.args.text.now c.in-Some.body.now c.in-Some.rest.now c.in-Some.ensures (c.read_base64.ensures.refused cc))
