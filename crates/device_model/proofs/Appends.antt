-- Bytes added to a file one after the other are added at once.
use Rattle.std.proofs.Common.{◌≡◌, ℕ, Bool, true, false, List, [], ◌∷◌, ◌++◌, cond, refl, sym, ◌∙◌, ap, append_assoc, eq-eqb}
use Rattle.std.specs.Prelude.{◌==◌, ◌&&◌, Option, Some, None, option_map}
use Rattle.std.specs.Str.{bytes_eq}
use Rattle.std.proofs.lemmas.Slice.Eq.{bytes_eq-Decides}
use Rattle.device_model.specs.declared.calls.Part.{Part}
use Rattle.device_model.specs.declared.calls.Part.TheVariants.{Tree, Scripts}
use Rattle.device_model.specs.Work.{File, Folder, Unknown, Changed, Synced, Work, same_part, is_at, appended, folder_appended, with_bytes}
use Rattle.device_model.specs.State.{State, after_work}

bytes_eq-refl : (xs : List ℕ) → bytes_eq xs xs ≡ true
bytes_eq-refl xs = (bytes_eq-Decides xs xs).1 refl

same_part-refl : (p : Part) → same_part p p ≡ true
same_part-refl (Tree k) = eq-eqb k k refl
same_part-refl Scripts = refl

is_at-refl : (part : Part) (path : List ℕ) (bytes : List ℕ) → is_at part path (record { part = part; path = path; bytes = bytes }) ≡ true
is_at-refl part path bytes = ap (λ (b : Bool). b && bytes_eq path path) (same_part-refl part) ∙ bytes_eq-refl path

module _ (part : Part) (path more bytes : List ℕ) where
  -- the first file, by whether it stands there
  by_test : (file : File) (files : List File) (b : Bool) → is_at part path file ≡ b
      → appended part path more (appended part path bytes files) ≡ appended part path (bytes ++ more) files
      → appended part path more (cond b (record file { bytes = file.bytes ++ bytes } ∷ files) (file ∷ appended part path bytes files))
      ≡ cond b (record file { bytes = file.bytes ++ (bytes ++ more) } ∷ files) (file ∷ appended part path (bytes ++ more) files)
  by_test file files true e rest =
      ap (λ (b : Bool). cond b (record file { bytes = (file.bytes ++ bytes) ++ more } ∷ files) (record file { bytes = file.bytes ++ bytes } ∷ appended part path more files)) e
      ∙ ap (λ (l : List ℕ). record file { bytes = l } ∷ files) (append_assoc file.bytes bytes more)
  by_test file files false e rest =
      ap (λ (b : Bool). cond b (record file { bytes = file.bytes ++ more } ∷ appended part path bytes files) (file ∷ appended part path more (appended part path bytes files))) e
      ∙ ap (λ (l : List File). file ∷ l) rest

  pub appended-appended : (files : List File) → appended part path more (appended part path bytes files) ≡ appended part path (bytes ++ more) files
  appended-appended [] = ap (λ (b : Bool). cond b (record { part = part; path = path; bytes = bytes ++ more } ∷ []) (record { part = part; path = path; bytes = bytes } ∷ record { part = part; path = path; bytes = more } ∷ [])) (is_at-refl part path bytes)
  appended-appended (file ∷ files) = by_test file files (is_at part path file) refl (appended-appended files)

  folder-twice : (folder : Folder) → folder_appended part path more (folder_appended part path bytes folder) ≡ folder_appended part path (bytes ++ more) folder
  folder-twice Unknown = refl
  folder-twice (Changed files) = ap Changed (appended-appended files)
  folder-twice (Synced files) = ap Changed (appended-appended files)

  work-twice : (work : Option Work) → option_map (with_bytes part path more) (option_map (with_bytes part path bytes) work) ≡ option_map (with_bytes part path (bytes ++ more)) work
  work-twice None = refl
  work-twice (Some w) = ap (λ (f : Folder). Some (record w { folder = f })) (folder-twice w.folder)

  pub after_work-twice : (old mid new : State) → mid ≡ after_work (with_bytes part path bytes) old → new ≡ after_work (with_bytes part path more) mid → new ≡ after_work (with_bytes part path (bytes ++ more)) old
  after_work-twice old mid new is then = then ∙ ap (λ (s : State). after_work (with_bytes part path more) s) is ∙ ap (λ (w : Option Work). record old { work = w }) (work-twice old.work)
