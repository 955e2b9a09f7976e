-- A written tree is in byte order of its paths, so that no place stands twice.
use Rattle.std.proofs.Common.{◌≡◌, ◌≢◌, ℕ, suc, ◌+◌, ◌<◌, ◌≤◌, false, List, [], ◌∷◌, ◌++◌, map, Less, Equal, refl, sym, ap, ◌∙◌, arith}
use Rattle.std.specs.Prelude.{⊤}
use Rattle.std.specs.Option.{unwrap_or}
use Rattle.std.specs.List.{AllByRecursion}
use Rattle.std.specs.List.Sorted.{IsStrictlySortedBy}
use Rattle.std.specs.Ordering.{nat_cmp}
use Rattle.std.specs.Cmp.{nat_cmp_is}
use Rattle.std.proofs.lemmas.Cmp.{nat_list_cmp_total, tied_itself}
use Rattle.upd_text.specs.Order.{byte_cmp}
use Rattle.io_model.specs.Source.{File}
use Rattle.admit.specs.Places.{spelled, IsSpelled, is_manifest}
use Rattle.admit.specs.declared.place.TreePlace.{TreePlace}
use Rattle.admit.specs.declared.place.TreePlace.TheVariants.{Version, Manifest, Signature, HeaderInfo, TypeInfo, MetaData, Script, Payload, Augmented, Other}
use Rattle.tree_writer.specs.declared.spec.PayloadSpec.{PayloadSpec}
use Rattle.tree_writer.specs.declared.spec.TreeSpec.{TreeSpec}
use Rattle.tree_writer.specs.declared.checks.Names.TheVariants.{Files, Scripts}
use Rattle.tree_writer.specs.Order.{Named, by_name}
use Rattle.tree_writer.specs.Texts.{header_text}
use Rattle.tree_writer.specs.Files.{Entry, as_file, payload_entry, payload_entries, data_entries, info_entries, script_entry, script_entries, front_entries, listed_entries, version_entry, manifest_text, entries_of}
use Rattle.tree_writer.specs.Faults.{test_of}
use Rattle.tree_writer.proofs.ManifestBack.{IsEntry, AreDistinct, all_append}
use Rattle.tree_writer.proofs.Ordered.{AllBelow, AreSorted, ordered, all_weaker}
use Rattle.tree_writer.proofs.Shape.{IsShaped, AreRight, pair_all, front_good}

-- ---- the parts of a tree in their order

abbrev rank : TreePlace → ℕ
rank (Payload k name) = 0
rank HeaderInfo = 1
rank (TypeInfo k) = 2
rank (Script name) = 3
rank Manifest = 4
rank Version = 5
rank _ = 6

-- each entry is of a rank between these
abbrev Between : ℕ → ℕ → List Entry → Type 0
Between low high es = AllByRecursion (λ e. (low ≤ rank e.0) × (rank e.0 ≤ high)) es

between : (low high : ℕ) (xs ys : List Entry) → Between low high xs → Between low high ys → Between low high (xs ++ ys)
between low high xs ys h k = all_append (λ (e : Entry). (low ≤ rank e.0) × (rank e.0 ≤ high)) xs ys h k

wider : (least low high most : ℕ) (es : List Entry) → least ≤ low → high ≤ most → Between low high es → Between least most es
wider least low high most [] l m h = tt
wider least low high most (e ∷ es) l m h = ((omega (arith, l, h.0.0), omega (arith, m, h.0.1)), wider least low high most es l m h.1)

one_rank : (n : ℕ) (h : Named → Entry) → ((f : Named) → rank (h f).0 ≡ n) → (fs : List Named) → Between n n (map h fs)
one_rank n h is [] = tt
one_rank n h is (f ∷ fs) = ((omega (arith, is f), omega (arith, is f)), one_rank n h is fs)

data_ranks : (k : ℕ) (ps : List PayloadSpec) → Between 0 0 (data_entries k ps)
data_ranks k [] = tt
data_ranks k (p ∷ ps) = between 0 0 (payload_entries k p.files) (data_entries (suc k) ps) (one_rank 0 (payload_entry k) (λ f. refl) (by_name p.files)) (data_ranks (suc k) ps)

info_ranks : (k : ℕ) (ps : List PayloadSpec) → Between 2 2 (info_entries k ps)
info_ranks k [] = tt
info_ranks k (p ∷ ps) = ((omega arith, omega arith), info_ranks (suc k) ps)

-- each path is below those behind it
abbrev pub Ascend : List Entry → Type 0
Ascend [] = ⊤
Ascend (e ∷ es) = AllByRecursion (λ f. byte_cmp (spelled e.0) (spelled f.0) ≡ Less) es × Ascend es

abbrev AllUnder : List Entry → List Entry → Type 0
AllUnder xs ys = AllByRecursion (λ x. AllByRecursion (λ y. byte_cmp (spelled x.0) (spelled y.0) ≡ Less) ys) xs

ascend-append : (xs ys : List Entry) → Ascend xs → Ascend ys → AllUnder xs ys → Ascend (xs ++ ys)
ascend-append [] ys a b u = b
ascend-append (x ∷ xs) ys a b u = (all_append (λ (f : Entry). byte_cmp (spelled x.0) (spelled f.0) ≡ Less) xs ys a.0 u.0, ascend-append xs ys a.1 b u.1)

other_place : (p q : TreePlace) → byte_cmp (spelled p) (spelled q) ≡ Less → q ≢ p
other_place p q below same =
    let tied : byte_cmp (spelled p) (spelled q) ≡ Equal = ap (λ (r : TreePlace). byte_cmp (spelled p) (spelled r)) same ∙ tied_itself nat_list_cmp_total (spelled p) in
    absurd (let bad : Less ≡ Equal = sym below ∙ tied in cc)

distinct : (es : List Entry) → Ascend es → AreDistinct es
distinct [] a = tt
distinct (e ∷ es) a = (all_weaker (λ (f : Entry). byte_cmp (spelled e.0) (spelled f.0) ≡ Less) (λ (f : Entry). f.0 ≢ e.0) (λ (f : Entry) (h : byte_cmp (spelled e.0) (spelled f.0) ≡ Less). other_place e.0 f.0 h) es a.0, distinct es a.1)

rank_less : (p q : TreePlace) → rank p < rank q → rank q ≤ 5 → byte_cmp (spelled p) (spelled q) ≡ Less
rank_less (Payload k n) HeaderInfo lt le = refl
rank_less (Payload k n) (TypeInfo j) lt le = refl
rank_less (Payload k n) (Script m) lt le = refl
rank_less (Payload k n) Manifest lt le = refl
rank_less (Payload k n) Version lt le = refl
rank_less HeaderInfo (TypeInfo j) lt le = refl
rank_less HeaderInfo (Script m) lt le = refl
rank_less HeaderInfo Manifest lt le = refl
rank_less HeaderInfo Version lt le = refl
rank_less (TypeInfo k) (Script m) lt le = refl
rank_less (TypeInfo k) Manifest lt le = refl
rank_less (TypeInfo k) Version lt le = refl
rank_less (Script n) Manifest lt le = refl
rank_less (Script n) Version lt le = refl
rank_less Manifest Version lt le = refl
rank_less p q lt le = absurd (omega arith)

under : (low high : ℕ) (x : Entry) (ys : List Entry) → rank x.0 < low → high ≤ 5 → Between low high ys → AllByRecursion (λ (y : Entry). byte_cmp (spelled x.0) (spelled y.0) ≡ Less) ys
under low high x [] lt le h = tt
under low high x (y ∷ ys) lt le h = (rank_less x.0 y.0 (omega (arith, lt, h.0.0)) (omega (arith, le, h.0.1)), under low high x ys lt le h.1)

all_under : (a b low high : ℕ) (xs ys : List Entry) → b < low → high ≤ 5 → Between a b xs → Between low high ys → AllUnder xs ys
all_under a b low high [] ys lt le h k = tt
all_under a b low high (x ∷ xs) ys lt le h k = (under low high x ys (omega (arith, lt, h.0.1)) le k, all_under a b low high xs ys lt le h.1 k)

-- ---- one rank

nat_less : (a b : ℕ) → a < b → nat_cmp a b ≡ Less
nat_less a b lt = sym (nat_cmp_is a b Less lt)

nat_same : (a : ℕ) → nat_cmp a a ≡ Equal
nat_same a = sym (nat_cmp_is a a Equal refl)

payload_less : (k j : ℕ) (n m : List ℕ) → k < j → byte_cmp (spelled (Payload k n)) (spelled (Payload j m)) ≡ Less
payload_less k j n m lt = rw (nat_less (48 + k) (48 + j) (omega arith)) refl

payload_names : (k : ℕ) (n m : List ℕ) → byte_cmp n m ≡ Less → byte_cmp (spelled (Payload k n)) (spelled (Payload k m)) ≡ Less
payload_names k n m h = rw (nat_same (48 + k)) h

info_less : (k j : ℕ) → k < j → byte_cmp (spelled (TypeInfo k)) (spelled (TypeInfo j)) ≡ Less
info_less k j lt = rw (nat_less (48 + k) (48 + j) (omega arith)) refl

script_names : (n m : List ℕ) → byte_cmp n m ≡ Less → byte_cmp (spelled (Script n)) (spelled (Script m)) ≡ Less
script_names n m h = h

module _ (place : List ℕ → TreePlace) (keeps : (n m : List ℕ) → byte_cmp n m ≡ Less → byte_cmp (spelled (place n)) (spelled (place m)) ≡ Less) where
  above_first : (f : Named) (fs : List Named) → AllBelow f.0 fs → AllByRecursion (λ (e : Entry). byte_cmp (spelled (place f.0)) (spelled e.0) ≡ Less) (map (λ (g : Named). (place g.0, g.1)) fs)
  above_first f [] h = tt
  above_first f (g ∷ gs) h = (keeps f.0 g.0 h.0, above_first f gs h.1)

  folder_ascends : (fs : List Named) → AreSorted fs → Ascend (map (λ (g : Named). (place g.0, g.1)) fs)
  folder_ascends [] s = tt
  folder_ascends (f ∷ fs) s = (above_first f fs s.0, folder_ascends fs s.1)

later_files : (k j : ℕ) (n : List ℕ) (fs : List Named) → k < j → AllByRecursion (λ (e : Entry). byte_cmp (spelled (Payload k n)) (spelled e.0) ≡ Less) (map (λ (g : Named). (Payload j g.0, g.1)) fs)
later_files k j n [] lt = tt
later_files k j n (f ∷ fs) lt = (payload_less k j n f.0 lt, later_files k j n fs lt)

later_data : (k j : ℕ) (n : List ℕ) (ps : List PayloadSpec) → k < j → AllByRecursion (λ (e : Entry). byte_cmp (spelled (Payload k n)) (spelled e.0) ≡ Less) (data_entries j ps)
later_data k j n [] lt = tt
later_data k j n (p ∷ ps) lt = all_append (λ (e : Entry). byte_cmp (spelled (Payload k n)) (spelled e.0) ≡ Less) (payload_entries j p.files) (data_entries (suc j) ps) (later_files k j n (by_name p.files) lt) (later_data k (suc j) n ps (omega arith))

files_first : (k : ℕ) (fs : List Named) (ps : List PayloadSpec) → AllUnder (map (λ (g : Named). (Payload k g.0, g.1)) fs) (data_entries (suc k) ps)
files_first k [] ps = tt
files_first k (f ∷ fs) ps = (later_data k (suc k) f.0 ps (omega arith), files_first k fs ps)

data_ascends : (k : ℕ) (ps : List PayloadSpec) → AllByRecursion (λ p. AreRight (test_of Files) p.files) ps → Ascend (data_entries k ps)
data_ascends k [] h = tt
data_ascends k (p ∷ ps) h =
    ascend-append (payload_entries k p.files) (data_entries (suc k) ps)
    (folder_ascends (λ (n : List ℕ). Payload k n) (payload_names k) (by_name p.files) (ordered (test_of Files) p.files h.0.fresh).sorted)
    (data_ascends (suc k) ps h.1) (files_first k (by_name p.files) ps)

later_infos : (k j : ℕ) (ps : List PayloadSpec) → k < j → AllByRecursion (λ (e : Entry). byte_cmp (spelled (TypeInfo k)) (spelled e.0) ≡ Less) (info_entries j ps)
later_infos k j [] lt = tt
later_infos k j (p ∷ ps) lt = (info_less k j lt, later_infos k (suc j) ps (omega arith))

infos_ascend : (k : ℕ) (ps : List PayloadSpec) → Ascend (info_entries k ps)
infos_ascend k [] = tt
infos_ascend k (p ∷ ps) = (later_infos k (suc k) ps (omega arith), infos_ascend (suc k) ps)

not_manifest : (p : TreePlace) → IsSpelled p → rank p ≤ 3 → is_manifest p ≡ false
not_manifest Version h le = absurd (omega arith)
not_manifest Manifest h le = absurd (omega arith)
not_manifest Signature h le = absurd (omega arith)
not_manifest HeaderInfo h le = refl
not_manifest (TypeInfo k) h le = refl
not_manifest (MetaData k) h le = refl
not_manifest (Script name) h le = refl
not_manifest (Payload k name) h le = refl
not_manifest Augmented h le = absurd h
not_manifest Other h le = absurd h

-- ---- the whole

module _ (spec : TreeSpec) (s : IsShaped spec) where
  abbrev D : List Entry
  D = data_entries 0 spec.payloads

  abbrev H : Entry
  H = (HeaderInfo, header_text spec)

  abbrev I : List Entry
  I = info_entries 0 spec.payloads

  abbrev S : List Entry
  S = script_entries spec.scripts

  abbrev M : Entry
  M = (Manifest, manifest_text (listed_entries spec))

  scripts : Between 3 3 S
  scripts = one_rank 3 script_entry (λ f. refl) (by_name spec.scripts)

  behind_header : Between 2 3 (I ++ S)
  behind_header = between 2 3 I S (wider 2 2 2 3 I (omega arith) (omega arith) (info_ranks 0 spec.payloads)) (wider 2 3 3 3 S (omega arith) (omega arith) scripts)

  behind_data : Between 1 3 (H ∷ (I ++ S))
  behind_data = ((omega arith, omega arith), wider 1 2 3 3 (I ++ S) (omega arith) (omega arith) behind_header)

  front_ranks : Between 0 3 (front_entries spec)
  front_ranks = between 0 3 D (H ∷ (I ++ S)) (wider 0 0 0 3 D (omega arith) (omega arith) (data_ranks 0 spec.payloads)) (wider 0 1 3 3 (H ∷ (I ++ S)) (omega arith) (omega arith) behind_data)

  front_ascends : Ascend (front_entries spec)
  front_ascends =
      ascend-append D (H ∷ (I ++ S)) (data_ascends 0 spec.payloads s.files) (
        under 2 3 H (I ++ S) (omega arith) (omega arith) behind_header,
        ascend-append I S (infos_ascend 0 spec.payloads) (folder_ascends Script script_names (by_name spec.scripts) (ordered (test_of Scripts) spec.scripts s.scripts.fresh).sorted)
            (all_under 2 2 3 3 I S (omega arith) (omega arith) (info_ranks 0 spec.payloads) scripts),
      )
      (all_under 0 0 1 3 D (H ∷ (I ++ S)) (omega arith) (omega arith) (data_ranks 0 spec.payloads) behind_data)

  pub all_ascend : Ascend (entries_of spec)
  all_ascend =
      ascend-append (front_entries spec) (M ∷ version_entry ∷ []) front_ascends ((refl, tt), (tt, tt))
      (all_under 0 3 4 5 (front_entries spec) (M ∷ version_entry ∷ []) (omega arith) (omega arith) front_ranks ((omega arith, omega arith), ((omega arith, omega arith), tt)))

  listed_ascend : Ascend (listed_entries spec)
  listed_ascend = ascend-append (front_entries spec) (version_entry ∷ []) front_ascends (tt, tt) (all_under 0 3 5 5 (front_entries spec) (version_entry ∷ []) (omega arith) (omega arith) front_ranks ((omega arith, omega arith), tt))

  pub front_distinct : AreDistinct (front_entries spec)
  front_distinct = distinct (front_entries spec) front_ascends

  pub listed_distinct : AreDistinct (listed_entries spec)
  listed_distinct = distinct (listed_entries spec) listed_ascend

  pub entries_distinct : AreDistinct (entries_of spec)
  entries_distinct = distinct (entries_of spec) all_ascend

  -- none of the front is the manifest
  pub front_listed : AllByRecursion (λ e. is_manifest e.0 ≡ false) (front_entries spec)
  front_listed = pair_all IsEntry (λ (e : Entry). (0 ≤ rank e.0) × (rank e.0 ≤ 3)) (λ (e : Entry). is_manifest e.0 ≡ false) (λ (e : Entry) (h : IsEntry e) (r : (0 ≤ rank e.0) × (rank e.0 ≤ 3)). not_manifest e.0 h.place r.1) (front_entries spec) (front_good spec s) front_ranks

pub sorted : (es : List Entry) → Ascend es → IsStrictlySortedBy byte_cmp (map (λ (f : File). unwrap_or f.0 []) (map as_file es))
unfolding IsStrictlySortedBy
sorted [] a = tt
sorted (e ∷ es) a = (first es a.0, sorted es a.1)
  where
    first : (fs : List Entry) → AllByRecursion (λ (f : Entry). byte_cmp (spelled e.0) (spelled f.0) ≡ Less) fs → AllByRecursion (λ (y : List ℕ). byte_cmp (spelled e.0) y ≡ Less) (map (λ (f : File). unwrap_or f.0 []) (map as_file fs))
    first [] h = tt
    first (f ∷ fs) h = (h.0, first fs h.1)
