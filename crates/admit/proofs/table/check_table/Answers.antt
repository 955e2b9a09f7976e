use Rattle.std.proofs.Common.{◌≡◌, sym, Ok, rules}
use Rattle.admit.specs.Table.{table_of}
use Rattle.admit.specs.declared.table.Places.{Places}
use Rattle.admit.proofs.TableLemmas.{are_in}
use Rattle.admit.proofs.table.check_table.Goals as goal

pub returns-clause-bound : goal.returns-clause-bound
unfolding table_of
returns-clause-bound c =
    let places : Places = record { version = c.in_ok-version.version; manifest = c.in_ok-manifest.manifest; header_info = c.in_ok-header_info.header_info } in
    let e : Ok places ≡ table_of c.args.heads.now = search rules in
    are_in c.args.heads.now places (sym e)
