-- What stands in a folder that was cleared, filled and synced.
use Rattle.std.proofs.Common.{◌≡◌, ℕ, Bool, true, false, cond, List, [], ◌∷◌, ◌++◌, refl, sym, ◌∙◌, ap, subst, map, append_assoc, append-nil}
use Rattle.std.specs.Prelude.{Option, Some, None, option_map}
use Rattle.std.specs.List.{AllByRecursion}
use Rattle.io_model.specs.Source.{Content}
use Rattle.device_model.specs.Disk.{WhereTold}
use Rattle.device_model.specs.Work.{File, Changed, Work, is_at, appended, cleared, work_synced, folder_synced}
use Rattle.device_model.specs.State.{State, after_work}
use Rattle.work_folder.specs.Rows.{Row, Value, Names, Copy}
use Rattle.work_folder.specs.Folder.{IsRow, IsFolder, Stands}
use Rattle.work_folder.specs.Adding.{adding, Adds}
use Rattle.work_folder.proofs.Places.{Place, same_place, AreApart, place_at}

abbrev file_place : File → Place
file_place file = (file.part, file.path)

at_its_place : (content : Content) (row : Row) (file : File) → IsRow content row file → file_place file ≡ place_at row
at_its_place content (Value part path bytes) file h = ap (λ p. (p, file.path)) h.0 ∙ ap (λ (l : List ℕ). (part, l)) h.1
at_its_place content (Names part path names) file h = ap (λ p. (p, file.path)) h.0 ∙ ap (λ (l : List ℕ). (part, l)) h.1
at_its_place content (Copy part path n sum) file h = ap (λ p. (p, file.path)) h.0 ∙ ap (λ (l : List ℕ). (part, l)) h.1

same_places : (content : Content) (rows : List Row) (files : List File) → IsFolder content rows files → map file_place files ≡ map place_at rows
same_places content [] [] h = refl
same_places content [] (file ∷ files) h = absurd h
same_places content (row ∷ rows) [] h = absurd h
same_places content (row ∷ rows) (file ∷ files) h = ap (λ (p : Place). p ∷ map file_place files) (at_its_place content row file h.0) ∙ ap (λ (l : List Place). place_at row ∷ l) (same_places content rows files h.1)

-- a file that isn't there goes to the end
new_by : (file f : File) (files : List File) (b : Bool) → is_at file.part file.path f ≡ b → b ≡ false → appended file.part file.path file.bytes files ≡ files ++ file ∷ []
    → cond b (record f { bytes = f.bytes ++ file.bytes } ∷ files) (f ∷ appended file.part file.path file.bytes files) ≡ f ∷ (files ++ file ∷ [])
new_by file f files true e other rest = absurd cc
new_by file f files false e other rest = ap (λ (l : List File). f ∷ l) rest

appended-new : (file : File) (files : List File) → AllByRecursion (λ f. is_at file.part file.path f ≡ false) files → appended file.part file.path file.bytes files ≡ files ++ file ∷ []
appended-new file [] all = refl
appended-new file (f ∷ files) all = new_by file f files (is_at file.part file.path f) refl all.0 (appended-new file files all.1)

picked : (P : Place → Type 0) (done : List File) (file : File) (rest : List File) → AllByRecursion P (map file_place (done ++ file ∷ rest)) → P (file_place file)
picked P [] file rest h = h.0
picked P (f ∷ done) file rest h = picked P done file rest h.1

earlier : (done : List File) (file : File) (rest : List File) → AreApart (map file_place (done ++ file ∷ rest)) → AllByRecursion (λ f. is_at file.part file.path f ≡ false) done
earlier [] file rest h = tt
earlier (f ∷ done) file rest h = (picked (λ q. same_place q (file_place f) ≡ false) done file rest h.0, earlier done file rest h.1)

adding_all : (files done : List File) → AreApart (map file_place (done ++ files)) → adding files (record { folder = Changed done; given = None }) ≡ record { folder = Changed (done ++ files); given = None }
adding_all [] done h = ap (λ (l : List File). record { folder = Changed l; given = None }) (sym (append-nil done))
adding_all (file ∷ files) done h =
    let one : appended file.part file.path file.bytes done ≡ done ++ file ∷ [] = appended-new file done (earlier done file files h) in
    let all : (done ++ file ∷ []) ++ files ≡ done ++ (file ∷ files) = append_assoc done (file ∷ []) files in
    ap (λ (l : List File). adding files (record { folder = Changed l; given = None })) one ∙ adding_all files (done ++ file ∷ []) (subst (λ (l : List File). AreApart (map file_place l)) (sym all) h) ∙ ap (λ (l : List File). record { folder = Changed l; given = None }) all

module _ (content : Content) (rows : List Row) (apart : AreApart (map place_at rows)) where
  by_told : (old : Option Work) (files : List File) → IsFolder content rows files → WhereTold (λ o n. Stands content rows n) old (option_map work_synced (option_map (adding files) (option_map cleared old)))
  by_told None files are = tt
  by_told (Some w) files are =
      let full = adding_all files [] (subst AreApart (sym (same_places content rows files are)) apart) in
      record { files = files; are = are; folder = ap (λ (v : Work). folder_synced v.folder) full; given = ap (λ (v : Work). v.given) full }

  pub stands : (old mid full new : State) → mid ≡ after_work cleared old → Adds content rows mid full → new ≡ after_work work_synced full → WhereTold (λ o n. Stands content rows n) old.work new.work
  stands old mid full new first a last =
      let work : new.work ≡ option_map work_synced (option_map (adding a.files) (option_map cleared old.work)) =
      ap (λ (s : State). s.work) last ∙ ap (λ (s : State). option_map work_synced s.work) a.added ∙ ap (λ (s : State). option_map work_synced (option_map (adding a.files) s.work)) first in
      subst (λ (w : Option Work). WhereTold (λ o n. Stands content rows n) old.work w) (sym work) (by_told old.work a.files a.are)
