use Rattle.std.proofs.Common.{◌≡◌, ◌≤◌, ◌++◌, ℕ, List, length, drop, arith, ap, ◌∙◌}
use Rattle.record_codec.specs.declared.entry.Version.TheVariants.{Second}
use Rattle.record_codec.specs.Spelling.{body, record_of, record_length}
use Rattle.record_codec.proofs.Puts.{Puts-head}
use Rattle.record_codec.specs.Spelling.{head}
use Rattle.record_codec.proofs.Record.{head_len, whole_is}
use Rattle.record_codec.proofs.writer.encode_into.Goals as goal

pub returns-clause-written : goal.returns-clause-written
returns-clause-written c =
    let e = c.args.entry.now in
    let fits : 16 ≤ length c.args.into.now = omega (arith, c.requires.fits) in
    let n : c.put_body-end.result ≡ record_length e = c.put_body-end.ensures.ends in
    Puts-head c.args.into.now (head Second e) (body e) c.put_body-end.new.into c.put.new.into 16 c.put_body-end.result c.put.result (head_len Second e) fits c.put_body-end.ensures (rw c.head.ensures at c.put.ensures)
    ∙ ap (λ (t : List ℕ). t ++ drop c.put_body-end.result c.args.into.now) (whole_is Second e) ∙ ap (λ (k : ℕ). record_of Second e ++ drop k c.args.into.now) n
