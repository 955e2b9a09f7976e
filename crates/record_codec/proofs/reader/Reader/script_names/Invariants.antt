use Rattle.std.proofs.Common.{◌≡◌, [], length}
use Rattle.upd_text.specs.Order.{itself}
use Rattle.record_codec.specs.Reading.{script_at, items_at}
use Rattle.record_codec.proofs.Loop.{rest_of}
use Rattle.record_codec.proofs.reader.Reader.script_names.Given as goal

abbrev pub invariant-loop : goal.invariant-loop
invariant-loop l = record {
  rest : rest_of itself script_at l.count l.counter l.names l.self ≡ items_at itself script_at l.fn.count [] l.fn.self;
  many : length l.names ≡ l.counter;
}
