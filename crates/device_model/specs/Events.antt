-- A list of events, and how many more it takes without memory.
use Rattle.std.specs.Prelude.{ℕ, List}
use Rattle.device_model.specs.declared.calls.Event.{Event}

pub record Recorded : Type 0 where
  pub events : List Event
  pub room : ℕ
