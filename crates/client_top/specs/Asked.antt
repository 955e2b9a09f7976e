-- What is asked of the client, by its words.
use Rattle.std.specs.Prelude.{ℕ, ◌+◌, if◌then◌else◌, List, Option, Some, None, Ok, Err, String}
use Rattle.std.specs.Global.{Global}
use Rattle.client_words.specs.declared.command.Command.TheVariants.{Simulate}
use Rattle.client_words.specs.declared.command.UsageFault.TheVariants.{UnknownCommand}
use Rattle.client_words.specs.Forms.{dir_of, traced_of}
use Rattle.client_top.specs.Answers.{Words}

-- nothing is simulated here: the word that says so, at this index, is no command
abbrev pub asked_at : ℕ → Words → Words
asked_at word (Ok (Simulate seed rounds)) = Err (UnknownCommand word)
asked_at word asked = asked

abbrev word_behind : Option ℕ → ℕ
word_behind None = 0
word_behind (Some dir) = 2

-- the index of the word of the command
abbrev pub command_word : List (String Global) → ℕ
command_word words = if traced_of words then word_behind (dir_of words) + 1 else word_behind (dir_of words)
