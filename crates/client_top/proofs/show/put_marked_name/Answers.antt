use Rattle.std.proofs.Common.{◌≡◌, Some, None, sym, ap, ◌∙◌}
use Rattle.std.specs.Option.{option_copied}
use Rattle.provides_map.specs.Pairs.{get}
use Rattle.client_top.proofs.Marks.{broken-name}
use Rattle.client_top.proofs.show.put_marked_name.Goals as goal

pub returns-in-Some : goal.returns-in-Some
returns-in-Some g c =
    let found : get c.args.pairs.now c.name_key.result ≡ Some c.in-Some.name.now = sym c.get.ensures ∙ ap option_copied c.in-Some.is in
    rw (broken-name c.args.pairs.now (Some c.in-Some.name.now) (ap (get c.args.pairs.now) (sym c.name_key.ensures) ∙ found), sym c.marked_name.ensures, sym c.bytes.ensures.bytes) c.put.ensures.puts

pub returns-in-None : goal.returns-in-None
returns-in-None g c =
    let found : get c.args.pairs.now c.name_key.result ≡ None = sym c.get.ensures ∙ ap option_copied c.in-None.is in
    rw (broken-name c.args.pairs.now None (ap (get c.args.pairs.now) (sym c.name_key.ensures) ∙ found)) c.put-in-None.ensures.puts
