-- A text of which a part waits to be written.
use Rattle.std.specs.Prelude.{◌≡◌, ℕ, List, ◌++◌}
use Rattle.io_model.specs.Sink.{Written, Writes}

-- the front of the text was written, and the rest waits in the page
pub record IsAhead (old : Written) (text page : List ℕ) (new : Written) : Type 0 where
  pub written : List ℕ
  pub writes : Writes old written new
  pub all : text ≡ written ++ page
