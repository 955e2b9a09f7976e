use Rattle.lab.proofs.Chaining.{are-chain, are-path, are-noted, campaign-noted}
use Rattle.lab.proofs.laws.notes_are_a_chain.Goals as goal

pub returns-clause-chain : goal.returns-clause-chain
returns-clause-chain c = are-chain

pub returns-clause-path : goal.returns-clause-path
returns-clause-path c = are-path

pub returns-clause-noted : goal.returns-clause-noted
returns-clause-noted c = are-noted

pub returns-clause-campaigns : goal.returns-clause-campaigns
returns-clause-campaigns c = campaign-noted
