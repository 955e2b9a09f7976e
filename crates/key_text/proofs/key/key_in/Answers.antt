use Rattle.std.proofs.Common.{ℕ, List, sym, subst, arith}
use Rattle.rsa_signature.specs.Message.{IsModulus}
use Rattle.key_text.specs.Der.{IsKey}
use Rattle.key_text.specs.Keys.{usual_exponent}
use Rattle.key_text.proofs.DerLemmas.{key_gives}
use Rattle.key_text.proofs.KeyLemmas.{differs, alike, no_key}
use Rattle.key_text.proofs.key.key_in.Goals as goal

pub returns-in_default-clause-refused : goal.returns-in_default-clause-refused
returns-in_default-clause-refused c = no_key c.args.octets.now c.in_default.ensures

pub returns-then-ne-clause-refused : goal.returns-then-ne-clause-refused
returns-then-ne-clause-refused c =
    (c.in-Some.modulus.now, c.in-Some.exponent.now, key_gives c.args.octets.now c.in-Some.modulus.now c.in-Some.exponent.now (λ k. omega (arith, c.type_inv.octets k)) c.in-Some.ensures, differs c.in-Some.exponent.now c.as_slice.result.now c.ne.result c.if-ne.true c.ne.ensures c.as_slice.ensures)

pub returns-in-Some-of-clause-read : goal.returns-in-Some-of-clause-read
returns-in-Some-of-clause-read c =
    let usual = alike c.in-Some.exponent.now c.as_slice.result.now c.ne.result c.if-ne.false c.ne.ensures c.as_slice.ensures in
    let key = key_gives c.args.octets.now c.in-Some.modulus.now c.in-Some.exponent.now (λ k. omega (arith, c.type_inv.octets k)) c.in-Some.ensures in
    let right : IsKey c.args.octets.now c.in-Some.modulus.now usual_exponent = subst (λ (l : List ℕ). IsKey c.args.octets.now c.in-Some.modulus.now l) usual key in
    (subst (λ (l : List ℕ). IsKey c.args.octets.now l usual_exponent) (sym c.in-Some-of.ensures.1) right, subst IsModulus (sym c.in-Some-of.ensures.1) c.in-Some-of.ensures.0)

pub returns-in-None-clause-refused : goal.returns-in-None-clause-refused
returns-in-None-clause-refused c =
    let usual = alike c.in-Some.exponent.now c.as_slice.result.now c.ne.result c.if-ne.false c.ne.ensures c.as_slice.ensures in
    let key = key_gives c.args.octets.now c.in-Some.modulus.now c.in-Some.exponent.now (λ k. omega (arith, c.type_inv.octets k)) c.in-Some.ensures in
    (c.in-Some.modulus.now, subst (λ (l : List ℕ). IsKey c.args.octets.now c.in-Some.modulus.now l) usual key, c.in-None.ensures)
