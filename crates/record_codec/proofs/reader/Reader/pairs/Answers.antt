use Rattle.std.proofs.lemmas.Result.{err_from_is_err_and}
use Rattle.provides_map.specs.Last.{key_of}
use Rattle.record_codec.specs.Reading.{pair_at}
use Rattle.record_codec.proofs.Loop.{goes_on, ends, is_done, starts}
use Rattle.record_codec.proofs.reader.Reader.pairs.Goals as goal

pub loop-init : goal.loop-init
loop-init c = rw c.new-pairs.ensures (starts key_of pair_at c.args.count c.args.self.now)

pub returns-in_err-key : goal.returns-in_err-key
returns-in_err-key c =
    let p = err_from_is_err_and c.from_residual.result c.from_residual.ensures.1 in
    rw (p.1, p.2) (ends key_of pair_at c.in_err-key.field-0.0.at c.loop.pairs c.args.count c.loop.counter c.loop.self _ c.loop-test.true c.in_err-key.ensures.read c.loop.invariant)

pub loop-preserved : goal.loop-preserved
loop-preserved c =
    rw c.in_ok-push_last.ensures.ok (goes_on key_of pair_at c.loop.pairs c.args.count c.loop.counter c.loop.self (c.in_ok-key.key, c.in_ok-key.value) c.pair.new.self _ c.loop-test.true c.in_ok-key.ensures.read c.loop.invariant)

pub returns : goal.returns
returns c = is_done key_of pair_at c.loop.pairs c.args.count c.loop.counter c.loop.self _ c.loop-test.false c.loop.invariant
