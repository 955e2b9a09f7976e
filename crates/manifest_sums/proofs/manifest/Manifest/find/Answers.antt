use Rattle.std.proofs.Common.{◌≡◌, Some, None, rules}
use Rattle.std.specs.Prelude.{position}
use Rattle.manifest_sums.specs.Manifest.{has_path}
use Rattle.manifest_sums.proofs.SpellingLemmas.{path_none, path_some}
use Rattle.manifest_sums.proofs.manifest.Manifest.find.Goals as goal

pub returns-in-Some-clause-none : goal.returns-in-Some-clause-none
returns-in-Some-clause-none c =
    let e : Some c.in-Some.i ≡ position (has_path c.args.path.now) c.args.self.now = search rules in
    path_none c.args.self.now c.args.path.now (Some c.in-Some.i) e

pub returns-in-Some-clause-there : goal.returns-in-Some-clause-there
returns-in-Some-clause-there c =
    let e : Some c.in-Some.i ≡ position (has_path c.args.path.now) c.args.self.now = search rules in
    path_some c.args.self.now c.args.path.now c.in-Some.i e

pub returns-in-None-clause-none : goal.returns-in-None-clause-none
returns-in-None-clause-none c =
    let e : None ≡ position (has_path c.args.path.now) c.args.self.now = search rules in
    path_none c.args.self.now c.args.path.now None e
