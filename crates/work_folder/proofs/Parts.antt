-- The names of the payloads' files, under `files/`.
use Rattle.std.proofs.Common.{◌≡◌, ◌≢◌, ℕ, ◌+◌, ◌≤◌, List, refl, ◌++◌, length, Some, ap, ◌∙◌, length-append, arith}
use Rattle.std.specs.Prelude.{codes}
use Rattle.std.proofs.lemmas.List.Elements.{All-append}
use Rattle.upd_text.specs.Text.{IsName, name_of}
use Rattle.upd_text.specs.Forms.{IsText}
use Rattle.upd_text.proofs.FormLemmas.{name_is}
use Rattle.admit.specs.Places.{place_of, payload_at, spelled}
use Rattle.admit.specs.declared.place.TreePlace.TheVariants.{Payload}
use Rattle.admit.proofs.Placed.{payload_path}

abbrev IsGood : ℕ → Type 0
IsGood b = (32 ≤ b) × (b ≢ 127)

files_folder : IsText 1 128 (codes "files/")
unfolding name_of
files_folder = (name_is (codes "files/")).0 refl

long_path : (k : ℕ) (part : List ℕ) → length (spelled (Payload k part)) ≡ 10 + length part
long_path k part = omega arith

under_files : (path : List ℕ) (k : ℕ) (part : List ℕ) → IsName path → payload_at (place_of path) ≡ Some (k, part) → IsText 1 128 (codes "files/" ++ part)
under_files path k part name h =
    let p = payload_path path k part h in
    let t = (name_is path).0 name in
    let u = (name_is part).0 p.file.name in
    let long : length path ≡ 10 + length part = ap (λ (l : List ℕ). length l) p.is ∙ long_path k part in
    record {
      some = omega (arith, length-append (codes "files/") part);
      short = omega (arith, length-append (codes "files/") part, long, t.short);
      good = All-append IsGood (codes "files/") part files_folder.good u.good;
    }

pub name_of_payload : (path : List ℕ) (k : ℕ) (part : List ℕ) → IsName path → payload_at (place_of path) ≡ Some (k, part) → IsName (codes "files/" ++ part)
name_of_payload path k part name h = (name_is (codes "files/" ++ part)).1 (under_files path k part name h)

pub short_payload : (path : List ℕ) (k : ℕ) (part : List ℕ) → IsName path → payload_at (place_of path) ≡ Some (k, part) → length (codes "files/" ++ part) ≤ 128
short_payload path k part name h = (under_files path k part name h).short
