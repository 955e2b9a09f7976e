use Rattle.std.proofs.Common.{◌<◌, length, arith}
use Rattle.provides_map.specs.Pairs.{Pairs}
use Rattle.provides_map.proofs.Append.{map_push}
use Rattle.provides_map.proofs.provides.Provides.push_last.Goals as goal

pub invariant_of-self-2 : goal.invariant_of-self-2
invariant_of-self-2 c =
    let ps : Pairs = c.self.inside.pairs.items in
    let room : length ps < 4294967295 = omega arith in
    rw c.in_ok-push.ensures.items (map_push ps c.args.key c.args.value c.self.invariant room (rw c.self.view_is c.requires) c.bytes-name.ensures.name c.bytes-value.ensures.value)
