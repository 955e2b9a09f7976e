-- Words that simulate name few rounds.
use Rattle.std.proofs.Common.{◌≡◌, ℕ, ◌+◌, ◌<◌, ◌≤◌, Bool, true, false, nat_lt, List, [], ◌∷◌, drop, refl, subst, arith}
use Rattle.std.specs.Prelude.{Option, Some, None, option_map, IfSome, Result, Ok, Err, IfOk, if◌then◌else◌, String, string_bytes, ⊤}
use Rattle.std.specs.List.{filter_map, cons_option}
use Rattle.std.specs.Option.{option_and_then}
use Rattle.std.specs.Global.{Global}
use Rattle.std.specs.Str.{bytes_eq}
use Rattle.std.proofs.lemmas.Bool.Decides.{nat_tests}
use Rattle.upd_text.specs.Text.{decimal_of}
use Rattle.client_words.specs.declared.command.Command.{Command}
use Rattle.client_words.specs.declared.command.Command.TheVariants.{Simulate}
use Rattle.client_words.specs.declared.command.TheConstants.{MOST_ROUNDS}
use Rattle.client_words.specs.declared.command.UsageFault.{UsageFault}
use Rattle.client_words.specs.declared.command.UsageFault.TheVariants.{UnknownCommand}
use Rattle.client_words.specs.Forms.{Form, Ends, Word, Tree, Number, forms, number_below, behind, first_end, said_at_end, if_left, rest_said, wrong_word, command_said, traced_said, is_trace, data_said, begins_with_data, words_said, said_command, command_of}

abbrev FewRounds : Command → Type 0
FewRounds (Simulate seed rounds) = rounds ≤ MOST_ROUNDS
FewRounds _ = ⊤

-- what a form says has few rounds
abbrev Few : Form → Type 0
Few (Ends said) = FewRounds said.command
Few (Word text rest) = Few rest
Few (Tree rest) = (n : ℕ) → Few (rest n)
Few (Number bound rest) = (n : ℕ) → n < bound → Few (rest n)

abbrev AllFew : List Form → Type 0
AllFew [] = ⊤
AllFew (f ∷ left) = Few f × AllFew left

either-few : (b : Bool) (rest : Form) → Few rest → IfSome (if b then Some rest else None) Few
either-few true rest h = h
either-few false rest h = tt

if-below : (b : Bool) (n bound : ℕ) → nat_lt n bound ≡ b → IfSome (if b then Some n else None) (λ m. m < bound)
if-below true n bound is = grind (arith, nat_tests)
if-below false n bound is = tt

below-by : (bound : ℕ) (o : Option ℕ) → IfSome (option_and_then (λ n. if nat_lt n bound then Some n else None) o) (λ m. m < bound)
below-by bound None = tt
below-by bound (Some n) = if-below (nat_lt n bound) n bound refl

map-few : (bound : ℕ) (rest : ℕ → Form) (o : Option ℕ) → IfSome o (λ m. m < bound) → ((n : ℕ) → n < bound → Few (rest n)) → IfSome (option_map rest o) Few
map-few bound rest None less h = tt
map-few bound rest (Some n) less h = h n less

behind-few : (at : ℕ) (w : List ℕ) (f : Form) → Few f → IfSome (behind at w f) Few
behind-few at w (Ends said) h = tt
behind-few at w (Word text rest) h = either-few (bytes_eq w text) rest h
behind-few at w (Tree rest) h = h at
behind-few at w (Number bound rest) h = map-few bound rest (number_below bound w) (below-by bound (decimal_of w)) h

cons-few : (o : Option Form) (left : List Form) → IfSome o Few → AllFew left → AllFew (cons_option o left)
cons-few None left h all = all
cons-few (Some f) left h all = (h, all)

filter-few : (at : ℕ) (w : List ℕ) (left : List Form) → AllFew left → AllFew (filter_map (behind at w) left)
filter-few at w [] all = tt
filter-few at w (f ∷ left) all = cons-few (behind at w f) (filter_map (behind at w) left) (behind-few at w f all.0) (filter-few at w left all.1)

end-few : (left : List Form) → AllFew left → IfOk (said_command (said_at_end (first_end left))) FewRounds
end-few [] all = tt
end-few (Ends said ∷ left) all = all.0
end-few (Word text rest ∷ left) all = end-few left all.1
end-few (Tree rest ∷ left) all = end-few left all.1
end-few (Number bound rest ∷ left) all = end-few left all.1

left-few : (left : List Form) (at : ℕ) (words : List (String Global)) (fault : UsageFault) → IfOk (said_command (rest_said at left words)) FewRounds → IfOk (said_command (if_left left (rest_said at left words) (Err fault))) FewRounds
left-few [] at words fault h = tt
left-few (f ∷ left) at words fault h = h

rest-few : (at : ℕ) (left : List Form) (words : List (String Global)) → AllFew left → IfOk (said_command (rest_said at left words)) FewRounds
rest-few at left [] all = end-few left all
rest-few at left (word ∷ words) all =
    let few = filter-few at (string_bytes word) left all in
    left-few (filter_map (behind at (string_bytes word)) left) (at + 1) words (wrong_word at left)
    (rest-few (at + 1) (filter_map (behind at (string_bytes word)) left) words few)

all-few : AllFew forms
unfolding forms
all-few = ((λ n. tt), (tt, (tt, (tt, (tt, (tt, (tt, (tt, ((λ n. tt), ((λ seed below rounds few. omega (arith, few)), tt))))))))))

command-few : (at : ℕ) (words : List (String Global)) → IfOk (said_command (command_said at words)) FewRounds
command-few at [] = tt
command-few at (word ∷ words) =
    let few = filter-few at (string_bytes word) forms all-few in
    left-few (filter_map (behind at (string_bytes word)) forms) (at + 1) words (UnknownCommand at)
    (rest-few (at + 1) (filter_map (behind at (string_bytes word)) forms) words few)

trace-few : (b : Bool) (at : ℕ) (word : String Global) (words : List (String Global)) → IfOk (said_command (if b then command_said (at + 1) words else command_said at (word ∷ words))) FewRounds
trace-few true at word words = command-few (at + 1) words
trace-few false at word words = command-few at (word ∷ words)

traced-few : (at : ℕ) (words : List (String Global)) → IfOk (said_command (traced_said at words)) FewRounds
traced-few at [] = tt
traced-few at (word ∷ words) = trace-few (is_trace word) at word words

data-few : (words : List (String Global)) → IfOk (said_command (data_said words)) FewRounds
data-few [] = tt
data-few (dir ∷ words) = traced-few 2 words

by-data : (b : Bool) (words : List (String Global)) → IfOk (said_command (if b then data_said (drop 1 words) else traced_said 0 words)) FewRounds
by-data true words = data-few (drop 1 words)
by-data false words = traced-few 0 words

words-few : (words : List (String Global)) → IfOk (said_command (words_said words)) FewRounds
unfolding words_said
words-few words = by-data (begins_with_data words) words

pub few-rounds : (words : List (String Global)) (seed rounds : ℕ) → command_of words ≡ Ok (Simulate seed rounds) → rounds ≤ MOST_ROUNDS
few-rounds words seed rounds is = subst (λ (r : Result Command UsageFault). IfOk r FewRounds) is (words-few words)
