use Rattle.key_text.proofs.KeysLemmas.{same_keys, same_fault, keys_apart}
use Rattle.key_text.proofs.laws.texts_have_one_reading.Goals as goal

pub returns-clause-keys : goal.returns-clause-keys
returns-clause-keys c = same_keys

pub returns-clause-faults : goal.returns-clause-faults
returns-clause-faults c = same_fault

pub returns-clause-apart : goal.returns-clause-apart
returns-clause-apart c = keys_apart
