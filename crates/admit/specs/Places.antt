-- What stands at a path of a tree.
use Rattle.std.specs.Prelude.{◌≡◌, ℕ, ◌+◌, ◌-◌, ◌<◌, ◌==◌, ◌&&◌, ◌||◌, nat_eq, nat_lt, nat_le, Bool, true, false, if◌then◌else◌, List, [], ◌∷◌, ◌++◌, drop, codes, Option, Some, None}
use Rattle.std.specs.List.{starts_with}
use Rattle.std.specs.Result.{is_ok}
use Rattle.std.specs.Str.{bytes_eq}
use Rattle.upd_text.specs.Text.{name_of, IsName}
use Rattle.upd_text.specs.Parts.{is_plain}
use Rattle.artifact_meta.specs.declared.kinds.TheConstants.{MOST_PAYLOADS}
use Rattle.admit.specs.declared.place.TreePlace.{TreePlace}
use Rattle.admit.specs.declared.place.TreePlace.TheVariants.{Version, Manifest, Signature, HeaderInfo, TypeInfo, MetaData, Script, Payload, Augmented, Other}

-- ---- the spelling of a place

-- a payload's number as its four digits
abbrev pub digits : ℕ → List ℕ
digits k = codes "000" ++ (48 + k) ∷ []

-- the path of a place; the last two have none of their own
abbrev pub spelled : TreePlace → List ℕ
spelled Version = codes "version"
spelled Manifest = codes "manifest"
spelled Signature = codes "manifest.sig"
spelled HeaderInfo = codes "header/header-info"
spelled (TypeInfo k) = codes "header/headers/" ++ digits k ++ codes "/type-info"
spelled (MetaData k) = codes "header/headers/" ++ digits k ++ codes "/meta-data"
spelled (Script name) = codes "header/scripts/" ++ name
spelled (Payload k name) = codes "data/" ++ digits k ++ codes "/" ++ name
spelled Augmented = []
spelled Other = []

-- a name without `/` that is neither `.` nor `..`
pub record IsFileName (text : List ℕ) : Type 0 where
  pub name : IsName text
  pub plain : is_plain text ≡ true

-- a place with a spelling: its payload is one that there may be, its name that of a file
abbrev pub IsSpelled : TreePlace → Type 0
IsSpelled (TypeInfo k) = k < MOST_PAYLOADS
IsSpelled (MetaData k) = k < MOST_PAYLOADS
IsSpelled (Script name) = IsFileName name
IsSpelled (Payload k name) = (k < MOST_PAYLOADS) × IsFileName name
IsSpelled Augmented = ⊥
IsSpelled Other = ⊥
IsSpelled _ = Unit {0}

-- ---- the place of a path

-- the payload's number behind three zeros, and what follows a slash
abbrev pub numbered : List ℕ → Option (ℕ × List ℕ)
numbered (a ∷ b ∷ c ∷ digit ∷ slash ∷ rest) = if (a == 48 && (b == 48 && c == 48)) && (nat_le 48 digit && (nat_lt digit (48 + MOST_PAYLOADS) && slash == 47)) then Some (digit - 48, rest) else None
numbered _ = None

abbrev pub file_name : List ℕ → Option (List ℕ)
file_name text = if is_ok (name_of text) && is_plain text then Some text else None

abbrev pub in_headers : Option (ℕ × List ℕ) → TreePlace
in_headers None = Other
in_headers (Some (k, name)) = if bytes_eq name (codes "type-info") then TypeInfo k else (if bytes_eq name (codes "meta-data") then MetaData k else Other)

abbrev pub in_scripts : Option (List ℕ) → TreePlace
in_scripts None = Other
in_scripts (Some name) = Script name

abbrev pub in_payload : ℕ → Option (List ℕ) → TreePlace
in_payload k None = Other
in_payload k (Some name) = Payload k name

abbrev pub in_data : Option (ℕ × List ℕ) → TreePlace
in_data None = Other
in_data (Some (k, text)) = in_payload k (file_name text)

abbrev pub begins : List ℕ → List ℕ → Bool
begins path front = starts_with nat_eq path front

abbrev pub is_augmented : List ℕ → Bool
is_augmented path = bytes_eq path (codes "manifest-augment") || begins path (codes "header-augment")

unfoldable pub place_of : List ℕ → TreePlace
place_of path =
    if bytes_eq path (codes "version") then Version
    else (if bytes_eq path (codes "manifest") then Manifest
    else (if bytes_eq path (codes "manifest.sig") then Signature
    else (if bytes_eq path (codes "header/header-info") then HeaderInfo
    else (if begins path (codes "header/headers/") then in_headers (numbered (drop 15 path))
    else (if begins path (codes "header/scripts/") then in_scripts (file_name (drop 15 path))
    else (if begins path (codes "data/") then in_data (numbered (drop 5 path))
    else (if is_augmented path then Augmented
    else Other)))))))

-- of a file whose path is a name, or none
abbrev pub place_at : Option (List ℕ) → TreePlace
place_at None = Other
place_at (Some path) = place_of path

-- ---- kinds of places

-- an augmented manifest or header
abbrev pub is_barred : TreePlace → Bool
is_barred Augmented = true
is_barred _ = false

-- a tree may have a file there
abbrev pub is_allowed : TreePlace → Bool
is_allowed Augmented = false
is_allowed Other = false
is_allowed _ = true

-- the manifest itself and its signature
abbrev pub is_manifest : TreePlace → Bool
is_manifest Manifest = true
is_manifest Signature = true
is_manifest _ = false

-- a file of a payload
abbrev pub is_payload : TreePlace → Bool
is_payload (Payload k name) = true
is_payload _ = false

-- a file that is read whole
abbrev pub is_header : TreePlace → Bool
is_header Signature = false
is_header (Payload k name) = false
is_header place = is_allowed place

-- the name of a script
abbrev pub script_at : TreePlace → Option (List ℕ)
script_at (Script name) = Some name
script_at _ = None

-- the payload of a payload's file, and its name
abbrev pub payload_at : TreePlace → Option (ℕ × List ℕ)
payload_at (Payload k name) = Some (k, name)
payload_at _ = None

-- the payload whose type-info it is
abbrev pub info_at : TreePlace → Option ℕ
info_at (TypeInfo k) = Some k
info_at _ = None

-- whether it is the type-info of this payload
abbrev pub is_info_of : ℕ → TreePlace → Bool
is_info_of k (TypeInfo j) = j == k
is_info_of k _ = false

-- the payload that it belongs to
abbrev pub payload_of : TreePlace → Option ℕ
payload_of (TypeInfo k) = Some k
payload_of (MetaData k) = Some k
payload_of (Payload k name) = Some k
payload_of _ = None
