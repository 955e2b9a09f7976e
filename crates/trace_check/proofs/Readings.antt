-- Reading one course after another.
use Rattle.std.proofs.Common.{◌≡◌, ℕ, ◌+◌, Bool, true, false, List, refl, ap, ◌∙◌}
use Rattle.std.specs.Prelude.{Option, Some, None, Ok, Err, if◌then◌else◌}
use Rattle.std.specs.List.{slice_get}
use Rattle.std.specs.Result.{IsErrAnd}
use Rattle.upd_text.specs.Results.{◌>>=◌}
use Rattle.device_model.specs.declared.calls.Answer.{Answer}
use Rattle.device_model.specs.declared.calls.Event.{Event}
use Rattle.device_model.specs.declared.calls.Event.TheVariants.{Start, End, Pause, Loss}
use Rattle.flow_words.specs.Course.{Course, done, say, hear, and_then}
use Rattle.trace_check.specs.declared.read.Stop.{Stop}
use Rattle.trace_check.specs.declared.read.Stop.TheVariants.{Wrong}
use Rattle.trace_check.specs.Reading.{Read, read, said, heard_at, same_event}

if-then : {A B : Type 0} (b : Bool) (x : Read A) (s : Stop) (k : (A × ℕ) → Read B) → (if b then (x >>= k) else Err s) ≡ ((if b then x else Err s) >>= k)
if-then true x s k = refl
if-then false x s k = refl

said-then : {A B : Type 0} (d : Event) (at : ℕ) (o : Option Event) (x : Read A) (y : Read B) (k : (A × ℕ) → Read B) → y ≡ (x >>= k) → said d at o y ≡ (said d at o x >>= k)
said-then d at None x y k is = refl
said-then d at (Some e) x y k is = ap (λ z. if same_event d e then z else Err (Wrong at)) is ∙ if-then (same_event d e) x (Wrong at) k

heard-then : {A B : Type 0} (at : ℕ) (o : Option Event) (x : Answer → Read A) (y : Answer → Read B) (k : (A × ℕ) → Read B) → ((a : Answer) → y a ≡ (x a >>= k)) → heard_at at o y ≡ (heard_at at o x >>= k)
heard-then at None x y k is = refl
heard-then at (Some (End a)) x y k is = is a
heard-then at (Some (Start c)) x y k is = refl
heard-then at (Some (Pause n)) x y k is = refl
heard-then at (Some Loss) x y k is = refl

pub read-then : {A B : Type 0} (events : List Event) (t : Course A) (rest : A → Course B) (at : ℕ) → read events (and_then t rest) at ≡ (read events t at >>= λ r. read events (rest r.0) r.1)
read-then events (done r) rest at = refl
read-then events (say d t) rest at = said-then d at (slice_get events at) (read events t (at + 1)) (read events (and_then t rest) (at + 1)) (λ r. read events (rest r.0) r.1) (read-then events t rest (at + 1))
read-then events (hear f) rest at = heard-then at (slice_get events at) (λ a. read events (f a) (at + 1)) (λ a. read events (and_then (f a) rest) (at + 1)) (λ r. read events (rest r.0) r.1) (λ a. read-then events (f a) rest (at + 1))

pub then-ok : {A B : Type 0} (events : List Event) (t : Course A) (rest : A → Course B) (at : ℕ) (a : A) (i : ℕ) → read events t at ≡ Ok (a, i) → read events (and_then t rest) at ≡ read events (rest a) i
then-ok events t rest at a i is = read-then events t rest at ∙ ap (λ (x : Read _). x >>= λ r. read events (rest r.0) r.1) is

pub then-err : {A B : Type 0} (events : List Event) (t : Course A) (rest : A → Course B) (at : ℕ) (s : Stop) → read events t at ≡ Err s → read events (and_then t rest) at ≡ Err s
then-err events t rest at s is = read-then events t rest at ∙ ap (λ (x : Read _). x >>= λ r. read events (rest r.0) r.1) is

-- what `?` hands on
pub err-is : {A : Type 0} (r : Read A) (s : Stop) → IsErrAnd r (λ e. e ≡ s) → r ≡ Err s
err-is (Ok x) s h = absurd h
err-is (Err e) s h = ap Err h
