use Rattle.manifest_sums.proofs.SpellingLemmas.{manifest_text, manifest_fault}
use Rattle.manifest_sums.proofs.laws.manifests_are_texts.Goals as goal

pub returns-clause-read : goal.returns-clause-read
returns-clause-read c = manifest_text

pub returns-clause-refused : goal.returns-clause-refused
returns-clause-refused c = manifest_fault
