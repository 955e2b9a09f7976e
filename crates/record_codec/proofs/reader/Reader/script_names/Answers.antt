use Rattle.std.proofs.Common.{◌∷◌, [], arith, length-append}
use Rattle.std.proofs.lemmas.Result.{err_from_is_err_and}
use Rattle.upd_text.specs.Order.{itself}
use Rattle.record_codec.specs.Reading.{script_at}
use Rattle.record_codec.proofs.Loop.{goes_on, ends, is_done, starts}
use Rattle.record_codec.proofs.reader.Reader.script_names.Goals as goal

pub loop-init : goal.loop-init
loop-init c = rw c.new-names.ensures (record { rest = starts itself script_at c.args.count c.args.self.now; many = omega arith })

pub returns-in_err-name : goal.returns-in_err-name
returns-in_err-name c =
    let p = err_from_is_err_and c.from_residual.result c.from_residual.ensures.1 in
    rw (p.1, p.2) (ends itself script_at c.in_err-name.field-0.0.at c.loop.names c.args.count c.loop.counter c.loop.self _ c.loop-test.true c.in_err-name.ensures.read c.loop.invariant.rest)

pub loop-preserved : goal.loop-preserved
loop-preserved c =
    rw c.in_ok-push_last.ensures.ok (record {
      rest = goes_on itself script_at c.loop.names c.args.count c.loop.counter c.loop.self c.in_ok-name.name c.script.new.self _ c.loop-test.true c.in_ok-name.ensures.read c.loop.invariant.rest;
      many = omega (arith, c.loop.invariant.many, length-append c.loop.names (c.in_ok-name.name ∷ []));
    })

pub returns : goal.returns
returns c = is_done itself script_at c.loop.names c.args.count c.loop.counter c.loop.self _ c.loop-test.false c.loop.invariant.rest
