-- What a line says is read of it.
use Rattle.std.proofs.Common.{◌≡◌, ℕ, zero, suc, ◌*◌, ◌<◌, ◌≤◌, ◌^◌, Bool, true, false, List, [], ◌∷◌, ◌++◌, length, get_or, cond, refl, sym, ap, ◌∙◌, arith}
use Rattle.std.specs.Prelude.{◌==◌, ◌&&◌, not, nat_le, nat_lt, codes, Option, Some, None}
use Rattle.std.specs.Fmt.{decimal}
use Rattle.std.specs.List.{list_all, slice_get}
use Rattle.std.specs.Option.{option_and_then}
use Rattle.std.specs.Result.{result_ok}
use Rattle.std.specs.Str.{bytes_eq}
use Rattle.std.proofs.lemmas.Bool.{le-leb}
use Rattle.std.proofs.lemmas.Bool.Decides.{Decides-eqb}
use Rattle.std.proofs.lemmas.List.{take_all}
use Rattle.std.proofs.lemmas.Slice.Eq.{bytes_eq-Decides}
use Rattle.hex.specs.Hex.{encode_lower, lower_digits, IsBytes}
use Rattle.hex.proofs.HexLemmas.{decode_of-encode_lower, length-encode_with}
use Rattle.upd_text.specs.Text.{IsName, decimal_of, is_digit, number_after}
use Rattle.upd_text.proofs.FormLemmas.{name_is, decimal_back}
use Rattle.device_model.specs.declared.calls.Answer.TheVariants.{Exit, Reply, NotStarted}
use Rattle.device_model.specs.declared.calls.Call.TheVariants.{Module, Ask, Script, SystemReboot}
use Rattle.device_model.specs.declared.calls.Event.{Event}
use Rattle.device_model.specs.declared.calls.Event.TheVariants.{Start, End, Pause, Loss}
use Rattle.device_model.specs.declared.calls.ModState.TheVariants as state
use Rattle.device_model.specs.declared.calls.Query.TheVariants as query
use Rattle.device_model.specs.declared.module_word.ModuleWord.{ModuleWord}
use Rattle.device_model.specs.declared.module_word.ModuleWord.TheVariants as asked
use Rattle.device_model.specs.Names.{module_name, module_named}
use Rattle.event_text.specs.Lines.{event_text, reply_text, line}
use Rattle.trace_check.specs.Form.{is_kind, is_noted}
use Rattle.trace_check.specs.Lines.{lacks, number_in, at_most, is_line, only, name_in, called, called_in, run_in, bytes_in, reply_in, exit_in, pause_in, call_in, answer_in, event_in}
use Rattle.trace_check.specs.Reads.{IsEventText}
use Rattle.trace_check.proofs.Same.{both-parts, and-made}
use Rattle.trace_check.proofs.Parted.{split-found}
use Rattle.trace_check.proofs.Spelled.{is-the-line}

-- ---- numbers and names lack marks

true_false : true ≡ false → ⊥
true_false e = cc

not-mark : (p : ℕ → Bool) (mark b : ℕ) → p mark ≡ false → p b ≡ true → not (b == mark) ≡ true
not-mark p mark b no-mark passes = by (b == mark) refl where
  by : (t : Bool) → (b == mark) ≡ t → not (b == mark) ≡ true
  by true is = let same : b ≡ mark = (Decides-eqb b mark).0 is in absurd (true_false (sym passes ∙ ap p same ∙ no-mark))
  by false is = ap not is

pub all-lack : (p : ℕ → Bool) (mark : ℕ) → p mark ≡ false → (text : List ℕ) → list_all p text ≡ true → lacks mark text ≡ true
all-lack p mark no-mark [] h = refl
all-lack p mark no-mark (b ∷ text) h =
    let parts = both-parts (p b) (list_all p text) h in
    and-made (not (b == mark)) (lacks mark text) (not-mark p mark b no-mark parts.0) (all-lack p mark no-mark text parts.1)

are-digits : (text : List ℕ) (n : ℕ) → decimal_of text ≡ Some n → list_all is_digit text ≡ true
unfolding decimal_of
are-digits text n is =
    by (nat_lt (number_after 0 text) (2 ^ 64)) (list_all is_digit text && (nat_le 1 (length text) && nat_le (length text) 20)) refl is where
      by : (a b : Bool) → (list_all is_digit text && (nat_le 1 (length text) && nat_le (length text) 20)) ≡ b → cond (a && b) (Some (number_after 0 text)) None ≡ Some n → list_all is_digit text ≡ true
      by true true h found = (both-parts (list_all is_digit text) (nat_le 1 (length text) && nat_le (length text) 20) h).0
      by true false h found = cc
      by false b h found = cc

pub digits-lack : (mark n : ℕ) → is_digit mark ≡ false → n < 2 ^ 64 → lacks mark (decimal n) ≡ true
digits-lack mark n other small = all-lack is_digit mark other (decimal n) (are-digits (decimal n) n (decimal_back n small))

pub number-back : (most n : ℕ) → n ≤ most → n < 2 ^ 64 → number_in most (decimal n) ≡ Some n
unfolding number_in
number-back most n small fits =
    ap (option_and_then (at_most most)) (decimal_back n fits) ∙ ap (λ (b : Bool). cond b (Some n) None) (le-leb n most small)

lacks-at : (mark : ℕ) (text : List ℕ) → ((k : ℕ) → k < length text → get_or text k 0 ≡ mark → ⊥) → lacks mark text ≡ true
lacks-at mark [] h = refl
lacks-at mark (b ∷ text) h =
    and-made (not (b == mark)) (lacks mark text) (by (b == mark) refl) (lacks-at mark text (λ k lt. h (suc k) (omega arith))) where
      by : (t : Bool) → (b == mark) ≡ t → not (b == mark) ≡ true
      by true is = absurd (h zero (omega arith) ((Decides-eqb b mark).0 is))
      by false is = ap not is

pub name-lacks : (name : List ℕ) → IsName name → lacks 10 name ≡ true
name-lacks name is = lacks-at 10 name (λ k lt ten. let good = (((name_is name).0 is).good k 0 lt).0 in omega (arith, good, ten))

pub name-back : (name : List ℕ) → IsName name → name_in name ≡ Some name
name-back name is = ap result_ok is

-- ---- events

module-back : (w : ModuleWord) → module_named (module_name w) ≡ Some w
module-back (asked.State state.Download) = refl
module-back (asked.State state.ArtifactInstall) = refl
module-back (asked.State state.ArtifactReboot) = refl
module-back (asked.State state.ArtifactVerifyReboot) = refl
module-back (asked.State state.ArtifactCommit) = refl
module-back (asked.State state.ArtifactRollback) = refl
module-back (asked.State state.ArtifactRollbackReboot) = refl
module-back (asked.State state.ArtifactVerifyRollbackReboot) = refl
module-back (asked.State state.ArtifactFailure) = refl
module-back (asked.State state.Cleanup) = refl
module-back (asked.Ask query.SupportsRollback) = refl
module-back (asked.Ask query.NeedsArtifactReboot) = refl

kind-there : (o : Option (List ℕ)) (kind : List ℕ) → is_kind o kind ≡ true → o ≡ Some kind
kind-there None kind is = cc
kind-there (Some noted) kind is = ap Some ((bytes_eq-Decides noted kind).0 is)

called-back : (kinds : List (List ℕ)) (k : ℕ) (kind : List ℕ) (w : ModuleWord) → k < 256 → is_kind (slice_get kinds k) kind ≡ true → called_in kinds (decimal k ++ 32 ∷ module_name w) ≡ Some (called k kind w)
unfolding called_in
called-back kinds k kind w small noted =
    let e1 = split-found (decimal k) (module_name w) (digits-lack 32 k refl (omega arith)) in
    let e2 = number-back 255 k (omega arith) (omega arith) in
    let e3 = kind-there (slice_get kinds k) kind noted in
    let e4 = module-back w in
    rw (e1, e2, e3, e4)

bytes-back : (text : List ℕ) → length text ≤ 32 → IsBytes text → bytes_in (reply_text text) ≡ Some text
unfolding bytes_in
bytes-back [] few bytes = refl
bytes-back (b ∷ text) few bytes =
    let long = length-encode_with lower_digits (b ∷ text) in
    let other : bytes_eq (encode_lower (b ∷ text)) (codes "-") ≡ false = by (bytes_eq (encode_lower (b ∷ text)) (codes "-")) refl long in
    let back = decode_of-encode_lower (b ∷ text) bytes in
    let short = take_all 32 (b ∷ text) few in
    rw (other, back, short) where
      by : (t : Bool) → bytes_eq (encode_lower (b ∷ text)) (codes "-") ≡ t → length (encode_lower (b ∷ text)) ≡ 2 * length (b ∷ text) → bytes_eq (encode_lower (b ∷ text)) (codes "-") ≡ false
      by true is long =
          let same : encode_lower (b ∷ text) ≡ codes "-" = (bytes_eq-Decides (encode_lower (b ∷ text)) (codes "-")).0 is in
          let one = ap length same in
          absurd (omega (arith, long, one))
      by false is long = is

reply-back : (code : ℕ) (text : List ℕ) → code < 256 → length text ≤ 32 → IsBytes text → reply_in (decimal code ++ 32 ∷ reply_text text) ≡ Some (End (Reply code text))
unfolding reply_in
reply-back code text small few bytes =
    let e1 = split-found (decimal code) (reply_text text) (digits-lack 32 code refl (omega arith)) in
    let e2 = number-back 255 code (omega arith) (omega arith) in
    let e3 = bytes-back text few bytes in
    rw (e1, e2, e3)

said-back : (kinds : List (List ℕ)) (e : Event) → is_noted kinds e ≡ true → IsEventText e → call_in kinds (event_text e) (answer_in (event_text e)) ≡ Some e
unfolding call_in answer_in run_in exit_in pause_in
said-back kinds (Start (Module k kind s)) noted right = called-back kinds k kind (asked.State s) right noted
said-back kinds (Start (Ask k kind q)) noted right = called-back kinds k kind (asked.Ask q) right noted
said-back kinds (Start (Script name)) noted right = let e = name-back name right in rw e
said-back kinds (Start SystemReboot) noted right = refl
said-back kinds (End (Exit code)) noted right = let e = number-back 255 code (omega arith) (omega arith) in rw e
said-back kinds (End (Reply code text)) noted right = reply-back code text right.0 right.1 right.2
said-back kinds (End NotStarted) noted right = refl
said-back kinds (Pause seconds) noted right = let e = number-back 4294967295 seconds (omega arith) (omega arith) in rw e
said-back kinds Loss noted right = refl

pub only-back : {A : Type 0} (test : A → Bool) (o : Option A) (x : A) → o ≡ Some x → test x ≡ true → only test o ≡ Some x
only-back test o x is passes = ap (only test) is ∙ ap (λ (b : Bool). cond b (Some x) None) passes

pub event-back : (kinds : List (List ℕ)) (e : Event) → is_noted kinds e ≡ true → IsEventText e → event_in kinds (event_text e) ≡ Some e
unfolding event_in
event-back kinds e noted right =
    only-back (λ (d : Event). is_noted kinds d && is_line (line d) (event_text e)) (call_in kinds (event_text e) (answer_in (event_text e))) e (said-back kinds e noted right)
    (and-made (is_noted kinds e) (is_line (line e) (event_text e)) noted (is-the-line (event_text e)))
