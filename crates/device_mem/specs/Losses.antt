-- How many losses a journal has.
use Rattle.std.specs.Prelude.{ℕ, ◌+◌, List, [], ◌∷◌}
use Rattle.device_model.specs.declared.calls.Event.{Event}
use Rattle.device_model.specs.declared.calls.Event.TheVariants.{Start, End, Pause, Loss}

abbrev pub count_losses : List Event → ℕ
count_losses [] = 0
count_losses (Start c ∷ rest) = count_losses rest
count_losses (End a ∷ rest) = count_losses rest
count_losses (Pause n ∷ rest) = count_losses rest
count_losses (Loss ∷ rest) = 1 + count_losses rest
