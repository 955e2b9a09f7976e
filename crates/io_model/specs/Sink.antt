-- What a sink means, and what a put adds to it.
use Rattle.std.specs.Prelude.{◌≡◌, ℕ, ◌≤◌, List, ◌++◌, Option, Some, None, Result, Ok, Err}
use Rattle.upd_text.specs.Counts.{Rose}
use Rattle.io_model.specs.declared.sink.SinkFault.{SinkFault}

-- what was written, where the sink tells it, and how often a put failed
pub record Written : Type 0 where
  pub told : Option (List ℕ)
  pub faults : ℕ

-- the text was added, where the sink tells its bytes
abbrev pub Adds : Option (List ℕ) → List ℕ → Option (List ℕ) → Type 0
Adds None text new = new ≡ None
Adds (Some before) text new = new ≡ Some (before ++ text)

-- the whole text was written
pub record Writes (old : Written) (text : List ℕ) (new : Written) : Type 0 where
  pub adds : Adds old.told text new.told
  pub count : old.faults ≤ new.faults

-- the sink failed, and a front of the text was written
pub record WritesFront (old : Written) (text : List ℕ) (new : Written) : Type 0 where
  pub front : List ℕ
  pub rest : List ℕ
  pub is_front : text ≡ front ++ rest
  pub adds : Adds old.told front new.told
  pub count : Rose old.faults new.faults

-- a put of the text, by its answer
abbrev pub Puts : Written → List ℕ → Result (Unit {0}) SinkFault → Written → Type 0
Puts old text (Ok u) new = Writes old text new
Puts old text (Err e) new = WritesFront old text new
