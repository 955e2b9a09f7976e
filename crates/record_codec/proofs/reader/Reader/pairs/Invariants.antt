use Rattle.std.proofs.Common.{◌≡◌, []}
use Rattle.provides_map.specs.Last.{key_of}
use Rattle.record_codec.specs.Reading.{pair_at, items_at}
use Rattle.record_codec.proofs.Loop.{rest_of}
use Rattle.record_codec.proofs.reader.Reader.pairs.Given as goal

abbrev pub invariant-loop : goal.invariant-loop
invariant-loop l = rest_of key_of pair_at l.count l.counter l.pairs l.self ≡ items_at key_of pair_at l.fn.count [] l.fn.self
