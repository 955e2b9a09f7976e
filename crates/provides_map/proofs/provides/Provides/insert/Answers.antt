use Rattle.std.proofs.Common.{arith}
use Rattle.provides_map.proofs.Puts.{put_at, put_gap, map_set, map_insert}
use Rattle.provides_map.proofs.provides.Provides.insert.Goals as goal

pub invariant_of-self : goal.invariant_of-self
invariant_of-self c = map_set c.self.inside.pairs.items c.args.key c.args.value c.in-Ok.at c.self.invariant (rw c.self.view_is c.in-Ok.ensures.found) c.bytes.ensures.name c.bytes-2.ensures.value

pub invariant_of-self-in-Err : goal.invariant_of-self-in-Err
invariant_of-self-in-Err c = rw c.in_ok-insert-in-Err.ensures.items (map_insert c.self.inside.pairs.items c.args.key c.args.value c.in-Err.at c.self.invariant (rw c.self.view_is c.in-Err.ensures.absent) (omega arith) c.bytes.ensures.name c.bytes-2.ensures.value)

pub returns-in-Ok-clause-ok : goal.returns-in-Ok-clause-ok
returns-in-Ok-clause-ok c = rw c.self.view_is (put_at c.args.self.now c.args.key c.args.value c.in-Ok.at c.in-Ok.ensures.found)

pub returns-in_ok-insert-in-Err-clause-ok : goal.returns-in_ok-insert-in-Err-clause-ok
returns-in_ok-insert-in-Err-clause-ok c = rw (c.in_ok-insert-in-Err.ensures.items, c.self.view_is) (put_gap c.args.self.now c.args.key c.args.value c.in-Err.at c.in-Err.ensures.absent)
