-- How much an admission reads.
use Rattle.std.specs.Prelude.{◌≡◌, ◌≢◌, ℕ, Bool, true, false, List, Option, None, Result, Ok, Err, option_map}
use Rattle.std.specs.List.{All}
use Rattle.upd_text.specs.Told.{WhereTold}
use Rattle.io_model.specs.Source.{Tree, Content, IsLength, path_at, gave}
use Rattle.io_model.specs.Reading.{IsUnread, IsReadBy, Gave, IsAtMost}
use Rattle.admit.specs.Places.{place_at, is_payload}
use Rattle.admit.specs.Table.{FileHead, info_in}
use Rattle.admit.specs.declared.refusal.Differs.{Differs}
use Rattle.admit.specs.declared.table.Places.{Places}

abbrev pub is_payload_file : Tree → ℕ → Bool
is_payload_file t i = is_payload (place_at (path_at t i))

-- no byte of a payload's file was read
abbrev pub SparesPayloads : Tree → Option (List ℕ) → Option (List ℕ) → Type 0
SparesPayloads t old new = WhereTold (λ a b. (i : ℕ) → is_payload_file t i ≡ true → IsUnread i a b) old new

-- of each payload's file at most its bytes were read; where all went well all of them, once
abbrev pub ReadsPayloads : Bool → Tree → Option (List ℕ) → Option (List ℕ) → Type 0
ReadsPayloads whole t old new = WhereTold (λ a b. (i : ℕ) → is_payload_file t i ≡ true → IsReadBy whole t i a b) old new

-- no other file was read
abbrev pub SparesTheRest : Tree → Option (List ℕ) → Option (List ℕ) → Type 0
SparesTheRest t old new = WhereTold (λ a b. (i : ℕ) → is_payload_file t i ≡ false → IsUnread i a b) old new

-- one more piece of file i was read, or nothing
abbrev pub ReadsPiece : {E : Type 0} → ℕ → Result ℕ E → Option (List ℕ) → Option (List ℕ) → Type 0
ReadsPiece i (Ok n) old new = new ≡ option_map (gave i n) old
ReadsPiece i (Err e) old new = new ≡ old

-- file i was read to its end, or up to where it stopped
abbrev pub ReadsFile : {A E : Type 0} → Content → ℕ → Result A E → Option (List ℕ) → Option (List ℕ) → Type 0
ReadsFile content i (Ok x) old new = Gave i (IsLength content i) old new
ReadsFile content i (Err e) old new = Gave i (IsAtMost content i) old new

-- no file was read but type-infos
abbrev pub OnlyInfos : List FileHead → List ℕ → List ℕ → Type 0
OnlyInfos heads old new = (j : ℕ) → info_in heads j ≡ None → IsUnread j old new

-- no file was read but the texts that are kept
abbrev pub NoneBut : List FileHead → Places → List ℕ → List ℕ → Type 0
NoneBut heads places old new = (j : ℕ) → j ≢ places.version → j ≢ places.header_info → info_in heads j ≡ None → IsUnread j old new

-- no file was read but these
abbrev pub NoneButThese : List ℕ → List ℕ → List ℕ → Type 0
NoneButThese ns old new = (j : ℕ) → All (λ n. j ≢ n) ns → IsUnread j old new

-- whether a check of sums went through all lines, finding none that differs
abbrev pub went_through : {E : Type 0} → Result (Option Differs) E → Bool
went_through (Ok None) = true
went_through _ = false
