use Rattle.std.proofs.Common.{ap, length, arith}
use Rattle.std.proofs.lemmas.List.Sums.{length-filter, count_by-le-length}
use Rattle.script_names.specs.Scripts.{is_at}
use Rattle.script_names.proofs.lending.due.Goals as goal

pub returns-clause-few : goal.returns-clause-few
returns-clause-few c =
    omega (arith, length-filter (is_at c.args.place) c.as_slice.result.now, count_by-le-length (is_at c.args.place) c.as_slice.result.now, c.as_slice.ensures.scripts.few, ap length c.as_slice.ensures.names)
