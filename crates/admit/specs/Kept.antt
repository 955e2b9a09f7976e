-- The texts that are kept once they were read.
use Rattle.std.specs.Prelude.{◌≡◌, ℕ, List, map, slice_get, Option, option_map, IfSome}
use Rattle.std.specs.List.{All}
use Rattle.std.specs.Option.{option_and_then}
use Rattle.io_model.specs.Source.{Tree, bytes_at}
use Rattle.admit.specs.Admit.{info_text, info_texts}
use Rattle.admit.specs.declared.reading.InfoText.{InfoText}
use Rattle.admit.specs.declared.reading.Kept.{Kept}

-- a payload's number, and its type-info
abbrev pub numbered_text : InfoText → ℕ × List ℕ
numbered_text info = (info.payload, info.text.items)

-- the text is that of its file
abbrev pub IsOfFile : Tree → InfoText → Type 0
IsOfFile t info = info.text.items ≡ bytes_at t info.number

-- the type-info that stands at this index, or none where there is none
pub record IsInfoAt (t : Tree) (i : ℕ) (info : Option InfoText) : Type 0 where
  pub text : option_map numbered_text info ≡ option_and_then info_text (slice_get t i)
  pub file : IfSome info (IsOfFile t)

-- the type-infos of the tree
pub record AreInfos (t : Tree) (infos : List InfoText) : Type 0 where
  pub texts : map numbered_text infos ≡ info_texts t
  pub files : All (IsOfFile t) infos

-- they are the bytes of their files
pub record IsKept (t : Tree) (kept : Kept) : Type 0 where
  pub version : kept.version.items ≡ bytes_at t kept.places.version
  pub header_info : kept.header_info.items ≡ bytes_at t kept.places.header_info
  pub type_infos : AreInfos t kept.type_infos
