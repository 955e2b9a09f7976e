-- Adding bytes to a file, by its place.
use Rattle.std.proofs.Common.{◌≡◌, ℕ, zero, suc, ◌+◌, ◌<◌, true, false, Bool, List, [], ◌∷◌, ◌++◌, length, get_or, slice_set, cond, refl, sym, ◌∙◌, ap, arith}
use Rattle.std.specs.Prelude.{Some, None, position, Result, Ok, Err, OnOk}
use Rattle.std.specs.List.{position_from}
use Rattle.std.proofs.lemmas.Iterator.Adapters.{position_from-zero}
use Rattle.std.proofs.lemmas.List.Quantifiers.{position-Some}
use Rattle.device_model.specs.declared.calls.Part.{Part}
use Rattle.device_model.specs.Work.{File, is_at, appended}

module _ (part : Part) (path bytes : List ℕ) where
  with_more : File → File
  with_more file = record file { bytes = file.bytes ++ bytes }

  at_first : (file : File) (files : List File) (b : Bool) → is_at part path file ≡ b → appended part path bytes (file ∷ files) ≡ cond b (record file { bytes = file.bytes ++ bytes } ∷ files) (file ∷ appended part path bytes files)
  at_first file files b e = ap (λ (t : Bool). cond t (record file { bytes = file.bytes ++ bytes } ∷ files) (file ∷ appended part path bytes files)) e

  -- the first file that stands there
  pub appended-set : (d : File) (files : List File) (i : ℕ) → i < length files → is_at part path (get_or files i d) ≡ true
      → ((k : ℕ) → k < i → is_at part path (get_or files k d) ≡ false)
      → appended part path bytes files ≡ slice_set files i (record (get_or files i d) { bytes = (get_or files i d).bytes ++ bytes })
  appended-set d [] i lt there before = absurd (omega arith)
  appended-set d (file ∷ files) zero lt there before = at_first file files true there
  appended-set d (file ∷ files) (suc i) lt there before = at_first file files false (before 0 (omega arith)) ∙ ap (λ (l : List File). file ∷ l) (appended-set d files i (omega arith) there (λ k less. before (suc k) (omega arith)))

  by_test : (n : ℕ) (file : File) (files : List File) (b : Bool) → is_at part path file ≡ b
      → (position_from (is_at part path) (n + 1) files ≡ None → appended part path bytes files ≡ files ++ record { part = part; path = path; bytes = bytes } ∷ [])
      → cond b (Some n) (position_from (is_at part path) (n + 1) files) ≡ None
      → appended part path bytes (file ∷ files) ≡ file ∷ (files ++ record { part = part; path = path; bytes = bytes } ∷ [])
  by_test n file files true e rest none = absurd cc
  by_test n file files false e rest none = at_first file files false e ∙ ap (λ (l : List File). file ∷ l) (rest none)

  none_there : (n : ℕ) (files : List File) → position_from (is_at part path) n files ≡ None
      → appended part path bytes files ≡ files ++ record { part = part; path = path; bytes = bytes } ∷ []
  none_there n [] none = refl
  none_there n (file ∷ files) none = by_test n file files (is_at part path file) refl (none_there (n + 1) files) none

  -- where none stands there
  pub appended-push : (files : List File) → position (is_at part path) files ≡ None
      → appended part path bytes files ≡ files ++ record { part = part; path = path; bytes = bytes } ∷ []
  appended-push files none = none_there 0 files (sym (position_from-zero (is_at part path) files) ∙ none)

  pub appended-place : (files : List File) (i : ℕ) (d : File) → position (is_at part path) files ≡ Some i
      → appended part path bytes files ≡ slice_set files i (record (get_or files i d) { bytes = (get_or files i d).bytes ++ bytes })
  appended-place files i d place = let found = position-Some (is_at part path) files i d place in appended-set d files i found.0 found.1 found.2

  -- as the code finds and writes it
  pub append_at : (items files : List File) (i : ℕ) (d new : File) → items ≡ files → d ≡ get_or items i d → position (is_at part path) items ≡ Some i
      → new ≡ record d { bytes = d.bytes ++ bytes } → slice_set items i new ≡ appended part path bytes files
  append_at items files i d new view at place is =
      ap (λ (f : File). slice_set items i f) (is ∙ ap (λ (f : File). record f { bytes = f.bytes ++ bytes }) at) ∙ sym (appended-place items i d place) ∙ ap (λ (l : List File). appended part path bytes l) view

  pub append_behind : (items files after : List File) (file : File) → items ≡ files → position (is_at part path) items ≡ None → file ≡ record { part = part; path = path; bytes = bytes }
      → after ≡ items ++ file ∷ [] → after ≡ appended part path bytes files
  append_behind items files after file view none is then = then ∙ ap (λ (f : File). items ++ f ∷ []) is ∙ sym (appended-push items none) ∙ ap (λ (l : List File). appended part path bytes l) view

pub on_ok : {T E : Type 0} {P Q : Type 0} (r : Result T E) → (P → Q) → OnOk r P → OnOk r Q
on_ok (Ok x) f p = f p
on_ok (Err e) f p = tt
