use Rattle.manifest_sums.proofs.SpellingLemmas.{sum_both, readable, sum_back}
use Rattle.manifest_sums.proofs.laws.sums_are_digits.Goals as goal

pub returns-clause-spelled : goal.returns-clause-spelled
returns-clause-spelled c = sum_both

pub returns-clause-readable : goal.returns-clause-readable
returns-clause-readable c = readable

pub returns-clause-back : goal.returns-clause-back
returns-clause-back c = sum_back
