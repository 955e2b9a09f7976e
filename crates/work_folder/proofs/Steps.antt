-- Files added one stretch after the other.
use Rattle.std.proofs.Common.{◌≡◌, ℕ, Bool, true, List, [], ◌∷◌, ◌++◌, length, refl, sym, ◌∙◌, ap, subst, append-nil, map, arith}
use Rattle.std.specs.Prelude.{Option, Some, None, option_map}
use Rattle.std.specs.List.{AllZip}
use Rattle.manifest_sums.specs.declared.manifest.Line.{Line}
use Rattle.io_model.specs.Source.{Content}
use Rattle.device_model.specs.declared.calls.Part.{Part}
use Rattle.device_model.specs.declared.calls.Part.TheVariants.{Tree}
use Rattle.device_model.specs.Work.{File, Work, with_bytes}
use Rattle.device_model.specs.State.{State, after_work}
use Rattle.upd_text.specs.Told.{WhereTold}
use Rattle.device_model.specs.How.{How, Through, Passed, work_after}
use Rattle.device_model.proofs.Passes.{passed-then}
use Rattle.work_folder.specs.Rows.{Row, Value, Names, Copy}
use Rattle.work_folder.specs.Folder.{Lists, IsCopy, IsRow}
use Rattle.work_folder.specs.Prepare.{Touches}
use Rattle.work_folder.specs.Adding.{adding, Adds, AddsValues, value_file}

pub after_work-two : (first second both : Work → Work) → ((w : Work) → both w ≡ second (first w)) → (old mid new : State) → mid ≡ after_work first old → new ≡ after_work second mid → new ≡ after_work both old
after_work-two first second both e old mid new is then =
    then ∙ ap (λ (s : State). after_work second s) is ∙ ap (λ (w : Option Work). record old { work = w }) (on_option old.work)
  where
    on_option : (w : Option Work) → option_map second (option_map first w) ≡ option_map both w
    on_option None = refl
    on_option (Some w) = ap Some (sym (e w))

pub adding-append : (xs ys : List File) (w : Work) → adding (xs ++ ys) w ≡ adding ys (adding xs w)
adding-append [] ys w = refl
adding-append (x ∷ xs) ys w = adding-append xs ys (with_bytes x.part x.path x.bytes w)

pub values_then : (xs ys : List File) (old mid new : State) → AddsValues xs old mid → AddsValues ys mid new → AddsValues (xs ++ ys) old new
values_then xs ys old mid new a b = after_work-two (adding xs) (adding ys) (adding (xs ++ ys)) (adding-append xs ys) old mid new a b

pub value_step : (k : ℕ) (path bytes meant : List ℕ) (old new : State) → bytes ≡ meant → new ≡ after_work (with_bytes (Tree k) path bytes) old → AddsValues (value_file k path meant ∷ []) old new
value_step k path bytes meant old new e h = subst (λ (b : List ℕ). new ≡ after_work (with_bytes (Tree k) path b) old) e h

pub AllZip-append : {A B : Type 0} (R : A → B → Type 0) (xs more : List A) (ys others : List B) → AllZip R xs ys → AllZip R more others → AllZip R (xs ++ more) (ys ++ others)
AllZip-append R [] more [] others h k = k
AllZip-append R [] more (y ∷ ys) others h k = absurd h
AllZip-append R (x ∷ xs) more [] others h k = absurd h
AllZip-append R (x ∷ xs) more (y ∷ ys) others h k = (h.0, AllZip-append R xs more ys others h.1 k)

pub adds_then : (content : Content) (rows more : List Row) (old mid new : State) → Adds content rows old mid → Adds content more mid new → Adds content (rows ++ more) old new
adds_then content rows more old mid new a b = record {
  files = a.files ++ b.files;
  are = AllZip-append _ rows more a.files b.files a.are b.are;
  added = values_then a.files b.files old mid new a.added b.added;
}

-- one file was added
pub adds_value : (content : Content) (part : Part) (path bytes : List ℕ) (old new : State) → new ≡ after_work (with_bytes part path bytes) old → Adds content (Value part path bytes ∷ []) old new
adds_value content part path bytes old new h = record { files = record { part = part; path = path; bytes = bytes } ∷ []; are = ((refl, refl, refl), tt); added = h }

pub adds_names : (content : Content) (part : Part) (path bytes : List ℕ) (names : List (List ℕ)) (old new : State) → Lists names bytes → new ≡ after_work (with_bytes part path bytes) old → Adds content (Names part path names ∷ []) old new
adds_names content part path bytes names old new l h = record { files = record { part = part; path = path; bytes = bytes } ∷ []; are = ((refl, refl, l), tt); added = h }

pub adds_copy : (content : Content) (part : Part) (path bytes : List ℕ) (n : ℕ) (sum : List ℕ) (old new : State) → IsCopy content n sum bytes → new ≡ after_work (with_bytes part path bytes) old → Adds content (Copy part path n sum ∷ []) old new
adds_copy content part path bytes n sum old new l h = record { files = record { part = part; path = path; bytes = bytes } ∷ []; are = ((refl, refl, l), tt); added = h }

both_told : (a b c : Option Work) → WhereTold (λ x y. Unit {0}) a b → WhereTold (λ x y. Unit {0}) b c → WhereTold (λ x y. Unit {0}) a c
both_told None None None h k = tt
both_told None None (Some z) h k = absurd k
both_told None (Some y) c h k = absurd h
both_told (Some x) None c h k = absurd h
both_told (Some x) (Some y) None h k = absurd k
both_told (Some x) (Some y) (Some z) h k = tt

-- two stretches, of which the first went through
pub touches_then : (how : How) (old mid new : State) → Touches Through old mid → Touches how mid new → Touches how old new
touches_then how old mid new a b =
    let on : mid.on ≡ true = a.passed.ends.on in
    let left : mid.work ≡ a.ready = a.passed.work ∙ ap (λ (o : Bool). work_after o a.ready) on in
    let first : Passed [] Through (record old { work = b.ready }) (record mid { work = b.ready }) = record {
      ends = record { on = on; losses = a.passed.ends.losses; faults = a.passed.ends.faults };
      journal = a.passed.journal;
      room = a.passed.room;
      work = sym (ap (λ (o : Bool). work_after o b.ready) on);
    } in
    record {
      ready = b.ready;
      told = both_told old.work a.ready b.ready a.told (subst (λ (w : Option Work). WhereTold (λ x y. Unit {0}) w b.ready) left b.told);
      passed = passed-then [] [] how (record old { work = b.ready }) (record mid { work = b.ready }) new first b.passed;
      disk = b.disk ∙ a.disk;
    }

pub adds_nothing : (content : Content) (old : State) → Adds content [] old old
adds_nothing content old = record { files = []; are = tt; added = sym (ap (λ (w : Option Work). record old { work = w }) (unchanged old.work)) }
  where
    unchanged : (w : Option Work) → option_map (adding []) w ≡ w
    unchanged None = refl
    unchanged (Some w) = refl

-- the same of the same source and lines
pub adds_of : (F : List Line → List ℕ → List Row) (content other : Content) (lines read : List Line) (numbers found : List ℕ) (old new : State) → other ≡ content → read ≡ lines → found ≡ numbers → Adds other (F read found) old new → Adds content (F lines numbers) old new
adds_of F content other lines read numbers found old new same e f h =
    subst (λ (t : Content). Adds t (F lines numbers) old new) same (subst (λ (l : List Line). Adds other (F l numbers) old new) e (subst (λ (n : List ℕ). Adds other (F read n) old new) f h))

-- files of one value
abbrev pub value_row : File → Row
value_row file = Value file.part file.path file.bytes

are_values : (content : Content) (files : List File) → AllZip (IsRow content) (map value_row files) files
are_values content [] = tt
are_values content (file ∷ files) = ((refl, refl, refl), are_values content files)

pub adds_values : (content : Content) (files : List File) (old new : State) → AddsValues files old new → Adds content (map value_row files) old new
adds_values content files old new h = record { files = files; are = are_values content files; added = h }
