use Rattle.flow_table.specs.Names.{state_name, outcome_name, reboot_name}
use Rattle.flow_table.specs.declared.names.TheConstants.{STATES, OUTCOMES, REBOOTS}
use Rattle.flow_table.proofs.Named.{found-names, state-named, outcome-named, reboot-named}
use Rattle.flow_table.proofs.names.names_are_read.Goals as goal

pub returns : goal.returns
returns c = record {
  states = state-named;
  only_states = found-names state_name STATES;
  outcomes = outcome-named;
  only_outcomes = found-names outcome_name OUTCOMES;
  reboots = reboot-named;
  only_reboots = found-names reboot_name REBOOTS;
}
