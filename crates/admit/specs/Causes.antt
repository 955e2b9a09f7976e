-- The causes of a refusal as one table. Each row is a condition on the whole tree, with what it tells; the answer is the first
-- row that has one. A row that needs what a file says finds nothing in it where a row before says that the file is wrong.
use Rattle.std.specs.Prelude.{◌≡◌, ℕ, List, [], ◌∷◌, ◌++◌, length, codes, Option, Some, None, Result, Ok, Err, find}
use Rattle.std.specs.List.{All, filter_map, flat_map, zip}
use Rattle.std.specs.Option.{option_map, option_map_or, is_none}
use Rattle.std.specs.Result.{result_err}
use Rattle.io_model.specs.Source.{Tree, bytes_at}
use Rattle.provides_map.specs.Pairs.{Pairs}
use Rattle.provides_map.specs.After.{first_unmet}
use Rattle.provides_map.specs.declared.change.Want.{Want}
use Rattle.artifact_meta.specs.Header.{header_info_of}
use Rattle.artifact_meta.specs.declared.header.HeaderInfo.{HeaderInfo}
use Rattle.artifact_meta.specs.declared.info.TypeInfo.{TypeInfo}
use Rattle.artifact_meta.specs.declared.fault.MetaFault.{MetaFault}
use Rattle.manifest_sums.specs.Manifest.{manifest_of}
use Rattle.manifest_sums.specs.declared.manifest.Line.{Line}
use Rattle.admit.specs.Table.{FileHead, first_some, heads_of, too_many, first_bad_path, place_in, path_of, too_long}
use Rattle.admit.specs.Admit.{number_of, not_listed, absent, bad_version, no_type_info, no_such_payload, info_texts, infos_after, bad_script_name, too_many_scripts}
use Rattle.admit.specs.Differing.{Listed, in_payload, in_rest, first_differing}
use Rattle.admit.specs.declared.refusal.Refusal.{Refusal}
use Rattle.admit.specs.declared.refusal.Refusal.TheVariants.{NoFile, Manifest, SumDiffers, Meta, Unmet, PayloadDiffers}
use Rattle.admit.specs.declared.refusal.Which.TheVariants as which

-- ---- what the files say

-- the bytes of the file with a path
abbrev pub text_at : Tree → List ℕ → List ℕ
text_at t path = option_map_or (bytes_at t) (place_in (heads_of t) path) []

abbrev pub header_in : Tree → Result HeaderInfo MetaFault
header_in t = header_info_of (text_at t (codes "header/header-info"))

abbrev pub found_or : {A E : Type 0} → List A → Result (List A) E → List A
found_or none (Ok found) = found
found_or none (Err fault) = none

-- the lines of the manifest, and with the indexes of their files
abbrev pub lines_in : Tree → List Line
lines_in t = found_or [] (manifest_of (text_at t (codes "manifest")))

abbrev pub listed_in : Tree → List Listed
listed_in t = zip (lines_in t) (filter_map (number_of (heads_of t)) (lines_in t))

-- the payload types, and what header-info wants
abbrev pub kinds_of : Result HeaderInfo MetaFault → List (List ℕ)
kinds_of (Ok header) = header.kinds
kinds_of (Err fault) = []

abbrev pub header_wants : Result HeaderInfo MetaFault → List Want
header_wants (Ok header) = header.wants
header_wants (Err fault) = []

-- how many payloads there are
abbrev pub count_in : Tree → ℕ
count_in t = length (kinds_of (header_in t))

-- what is said of them
abbrev pub infos_in : Tree → Result (List TypeInfo) Refusal
infos_in t = infos_after [] (kinds_of (header_in t)) (info_texts t)

-- what is wanted, of header-info and then of the payloads
abbrev pub wants_in : Tree → List Want
wants_in t = header_wants (header_in t) ++ flat_map (λ info. info.wants) (found_or [] (infos_in t))

-- ---- the rows

-- the first of the files that must be there which isn't
abbrev pub no_file : List FileHead → Option Refusal
no_file heads = option_map NoFile (find (λ w. is_none (place_in heads (path_of w))) (which.Version ∷ which.Manifest ∷ which.HeaderInfo ∷ which.TypeInfo ∷ []))

-- all but the last
abbrev pub head_causes : Tree → List ℕ → Pairs → List (Option Refusal)
head_causes t type held =
    -- 3
    too_many (heads_of t)
    -- 4, 5 and 6
    ∷ first_bad_path (heads_of t)
    -- 7
    ∷ no_file (heads_of t)
    -- 8
    ∷ too_long (heads_of t)
    -- 9
    ∷ option_map Manifest (result_err (manifest_of (text_at t (codes "manifest"))))
    -- 10
    ∷ not_listed (lines_in t) (heads_of t)
    -- 11
    ∷ absent (heads_of t) (lines_in t)
    -- 12
    ∷ option_map SumDiffers (first_differing in_rest t (listed_in t))
    -- 13
    ∷ bad_version (text_at t (codes "version"))
    -- 14, of header-info
    ∷ option_map (λ fault. Meta fault 0) (result_err (header_in t))
    -- 19
    ∷ no_type_info (heads_of t) (count_in t)
    -- 20
    ∷ no_such_payload (heads_of t) (count_in t)
    -- 14, of each payload in order
    ∷ result_err (infos_in t)
    -- 15
    ∷ bad_script_name (heads_of t)
    -- 16
    ∷ too_many_scripts (heads_of t)
    -- 17
    ∷ option_map Unmet (first_unmet (wants_in t) type held)
    ∷ []

-- the whole table
abbrev pub causes : Tree → List ℕ → Pairs → List (Option Refusal)
causes t type held =
    head_causes t type held
    -- 18
    ++ option_map PayloadDiffers (first_differing in_payload t (listed_in t))
    ∷ []

-- the first row that has something to tell
abbrev pub first_of : List (Option Refusal) → Option Refusal
first_of rows = first_some (λ row. row) rows

-- a row tells this, and none before it tells anything
pub record IsFirst (rows : List (Option Refusal)) (refusal : Refusal) : Type 0 where
  pub before : List (Option Refusal)
  pub behind : List (Option Refusal)
  pub place : rows ≡ before ++ Some refusal ∷ behind
  pub none : All (λ row. row ≡ None) before
