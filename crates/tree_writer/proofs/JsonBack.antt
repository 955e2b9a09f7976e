-- A value's compact text is read back as the value.
use Rattle.std.proofs.Common.{◌≡◌, ℕ, ◌-◌, ◌≤◌, Bool, true, false, List, [], ◌∷◌, ◌++◌, Some, option_map, option_and_then, Ordering, Less, Equal, Greater, nat_cmp, refl, sym, ap, ◌∙◌, arith, append-nil}
use Rattle.std.specs.Prelude.{⊤}
use Rattle.std.specs.List.{AllByRecursion}
use Rattle.std.specs.Ordering.{ordering_reverse, match_ordering}
use Rattle.std.specs.Cmp.Lexicographic.{slice_cmp}
use Rattle.std.specs.Str.{IsUtf8}
use Rattle.std.proofs.lemmas.Cmp.{nat_list_cmp_total}
use Rattle.std.proofs.lemmas.Str.{IsUtf8-append, IsUtf8-nil}
use Rattle.json.specs.Token.{Token}
use Rattle.json.specs.Lex.{tokens}
use Rattle.json.specs.Print.{quoted}
use Rattle.json.specs.Json as json
use Rattle.json.specs.Tree.{json_tokens, HasNumbers, ItemsHaveNumbers, MembersHaveNumbers}
use Rattle.json.specs.Tree as tree
use Rattle.json.proofs.Printed.Tokens.{tokens-print}
use Rattle.json.proofs.Printed.Trees.{value-json_tokens, ArePrintable-json_tokens}
use Rattle.json.proofs.Printed.Utf8.{IsUtf8-are_ascii, IsUtf8-quoted, IsUtf8-boolean}
use Rattle.serde_json.specs.Data.{Data, null, boolean, number, string, array, object, Items, no_items, item, Members, no_members, member, put}
use Rattle.serde_json.specs.Read.{read, max_depth, of_json, of_items, of_members}
use Rattle.serde_json.specs.Written.{outline, items_outline, members_outline, compact_text, items_text, members_text, comma_if, has_float, items_have_float, members_have_float}
use Rattle.serde_json.proofs.Texts.{print-outline}
use Rattle.artifact_meta.specs.Meta.{json_of}
use Rattle.artifact_meta.proofs.Json.{json_read}
use Rattle.tree_writer.specs.Texts.{Member, puts, dictionary}

-- ---- values that are written: no number, each text a T, an object's keys in ascending order, and not nested too deep

-- each key is above k
abbrev pub AllAbove : List ℕ → Members → Type 0
AllAbove k no_members = ⊤
AllAbove k (member l d ms) = (slice_cmp nat_cmp k l ≡ Less) × AllAbove k ms

module _ (T : List ℕ → Type 0) where
  abbrev mutual
    pub Fits : ℕ → Data → Type 0
    Fits n null = ⊤
    Fits n (boolean b) = ⊤
    Fits n (number x) = ⊥
    Fits n (string s) = T s
    Fits n (array ds) = (1 ≤ n) × ItemsFit (n - 1) ds
    Fits n (object ms) = (1 ≤ n) × MembersFit (n - 1) ms

    pub ItemsFit : ℕ → Items → Type 0
    ItemsFit n no_items = ⊤
    ItemsFit n (item d ds) = Fits n d × ItemsFit n ds

    pub MembersFit : ℕ → Members → Type 0
    MembersFit n no_members = ⊤
    MembersFit n (member k d ms) = T k × AllAbove k ms × Fits n d × MembersFit n ms

-- ---- the members go in one after another, each behind all others

abbrev joined : Members → Members → Members
joined no_members rest = rest
joined (member k d ms) rest = member k d (joined ms rest)

abbrev AllBefore : Members → Members → Type 0
AllBefore no_members ms = ⊤
AllBefore (member l e found) ms = AllAbove l ms × AllBefore found ms

joined-none : (found : Members) → joined found no_members ≡ found
joined-none no_members = refl
joined-none (member l e found) = ap (member l e) (joined-none found)

joined-next : (found : Members) (k : List ℕ) (d : Data) (rest : Members) → joined (joined found (member k d no_members)) rest ≡ joined found (member k d rest)
joined-next no_members k d rest = refl
joined-next (member l e found) k d rest = ap (member l e) (joined-next found k d rest)

put-last : (found : Members) (k : List ℕ) (d : Data) (ms : Members) → AllBefore found (member k d ms) → put k d found ≡ joined found (member k d no_members)
put-last no_members k d ms h = refl
put-last (member l e found) k d ms h =
    let above : slice_cmp nat_cmp k l ≡ Greater = nat_list_cmp_total.antisymm k l ∙ ap ordering_reverse h.0.0 in
    rw above (ap (member l e) (put-last found k d ms h.1))

before-next : (found : Members) (k : List ℕ) (d : Data) (ms : Members) → AllBefore found (member k d ms) → AllAbove k ms → AllBefore (joined found (member k d no_members)) ms
before-next no_members k d ms h a = (a, tt)
before-next (member l e found) k d ms h a = (h.0.1, before-next found k d ms h.1 a)

-- members whose keys rise go in as they stand
abbrev pub members_of : List Member → Members
members_of [] = no_members
members_of (m ∷ ms) = member m.0 m.1 (members_of ms)

abbrev pub KeysRise : List Member → Type 0
KeysRise [] = ⊤
KeysRise (m ∷ ms) = AllAbove m.0 (members_of ms) × KeysRise ms

puts-behind : (found : Members) (ms : List Member) → AllBefore found (members_of ms) → KeysRise ms → puts found ms ≡ joined found (members_of ms)
puts-behind found [] b r = sym (joined-none found)
puts-behind found (m ∷ ms) b r =
    ap (λ (f : Members). puts f ms) (put-last found m.0 m.1 (members_of ms) b)
    ∙ puts-behind (joined found (member m.0 m.1 no_members)) ms (before-next found m.0 m.1 (members_of ms) b r.0) r.1
    ∙ joined-next found m.0 m.1 (members_of ms)

pub puts-rising : (ms : List Member) → KeysRise ms → puts no_members ms ≡ members_of ms
puts-rising ms r = puts-behind no_members ms tt r

module _ (T : List ℕ → Type 0) where
  mutual
    of_json-outline : (n : ℕ) (d : Data) → Fits T n d → of_json (outline d) ≡ Some d
    of_json-outline n null h = refl
    of_json-outline n (boolean b) h = refl
    of_json-outline n (number x) h = absurd h
    of_json-outline n (string s) h = refl
    of_json-outline n (array ds) h = ap (option_map array) (of_items-outline (n - 1) ds h.1)
    of_json-outline n (object ms) h = ap (option_map object) (of_members-outline (n - 1) ms no_members h.1 tt)

    of_items-outline : (n : ℕ) (ds : Items) → ItemsFit T n ds → of_items (items_outline ds) ≡ Some ds
    of_items-outline n no_items h = refl
    of_items-outline n (item d ds) h =
        ap (option_and_then (λ (e : Data). option_map (item e) (of_items (items_outline ds)))) (of_json-outline n d h.0)
        ∙ ap (option_map (item d)) (of_items-outline n ds h.1)

    of_members-outline : (n : ℕ) (ms found : Members) → MembersFit T n ms → AllBefore found ms → of_members (members_outline ms) found ≡ Some (joined found ms)
    of_members-outline n no_members found h b = ap Some (sym (joined-none found))
    of_members-outline n (member k d ms) found h b =
        ap (option_and_then (λ (e : Data). of_members (members_outline ms) (put k e found))) (of_json-outline n d h.2)
        ∙ ap (of_members (members_outline ms)) (put-last found k d ms b)
        ∙ of_members-outline n ms (joined found (member k d no_members)) h.3 (before-next found k d ms b h.1)
        ∙ ap Some (joined-next found k d ms)

  mutual
    HasNumbers-outline : (n : ℕ) (d : Data) → Fits T n d → HasNumbers (outline d)
    HasNumbers-outline n null h = tt
    HasNumbers-outline n (boolean b) h = tt
    HasNumbers-outline n (number x) h = absurd h
    HasNumbers-outline n (string s) h = tt
    HasNumbers-outline n (array ds) h = ItemsHaveNumbers-outline (n - 1) ds h.1
    HasNumbers-outline n (object ms) h = MembersHaveNumbers-outline (n - 1) ms h.1

    ItemsHaveNumbers-outline : (n : ℕ) (ds : Items) → ItemsFit T n ds → ItemsHaveNumbers (items_outline ds)
    ItemsHaveNumbers-outline n no_items h = tt
    ItemsHaveNumbers-outline n (item d ds) h = (HasNumbers-outline n d h.0, ItemsHaveNumbers-outline n ds h.1)

    MembersHaveNumbers-outline : (n : ℕ) (ms : Members) → MembersFit T n ms → MembersHaveNumbers (members_outline ms)
    MembersHaveNumbers-outline n no_members h = tt
    MembersHaveNumbers-outline n (member k d ms) h = (HasNumbers-outline n d h.2, MembersHaveNumbers-outline n ms h.3)

  mutual
    shallow : (n : ℕ) (d : Data) → Fits T n d → tree.depth (outline d) ≤ n
    shallow n null h = omega arith
    shallow n (boolean b) h = omega arith
    shallow n (number x) h = absurd h
    shallow n (string s) h = omega arith
    shallow n (array ds) h = omega (arith, h.0, items_shallow (n - 1) ds h.1)
    shallow n (object ms) h = omega (arith, h.0, members_shallow (n - 1) ms h.1)

    items_shallow : (n : ℕ) (ds : Items) → ItemsFit T n ds → tree.items_depth (items_outline ds) ≤ n
    items_shallow n no_items h = omega arith
    items_shallow n (item d ds) h = omega (arith, shallow n d h.0, items_shallow n ds h.1)

    members_shallow : (n : ℕ) (ms : Members) → MembersFit T n ms → tree.members_depth (members_outline ms) ≤ n
    members_shallow n no_members h = omega arith
    members_shallow n (member k d ms) h = omega (arith, shallow n d h.2, members_shallow n ms h.3)

  -- no float is in them, so that the writer's text is the compact one
  mutual
    pub no_float : (n : ℕ) (d : Data) → Fits T n d → has_float d ≡ false
    no_float n null h = refl
    no_float n (boolean b) h = refl
    no_float n (number x) h = absurd h
    no_float n (string s) h = refl
    no_float n (array ds) h = no_float_items (n - 1) ds h.1
    no_float n (object ms) h = no_float_members (n - 1) ms h.1

    no_float_items : (n : ℕ) (ds : Items) → ItemsFit T n ds → items_have_float ds ≡ false
    no_float_items n no_items h = refl
    no_float_items n (item d ds) h = rw (no_float n d h.0) (no_float_items n ds h.1)

    no_float_members : (n : ℕ) (ms : Members) → MembersFit T n ms → members_have_float ms ≡ false
    no_float_members n no_members h = refl
    no_float_members n (member k d ms) h = rw (no_float n d h.2) (no_float_members n ms h.3)

  read-compact_text : (n : ℕ) (d : Data) → n ≤ max_depth → Fits T n d → read (compact_text d) ≡ Some d
  read-compact_text n d most h =
      let ts : List Token = json_tokens (outline d) in
      let same : tokens (compact_text d) ≡ ts ++ [] =
      ap tokens (sym (print-outline d)) ∙ tokens-print ts (ArePrintable-json_tokens (outline d) (HasNumbers-outline n d h)) ∙ sym (append-nil ts) in
      ap (λ o. option_and_then of_json (option_and_then (λ p. json.if_last p.0 p.1) o))
      (ap (json.value max_depth) same ∙ value-json_tokens (outline d) max_depth [] (omega (arith, most, shallow n d h)))
      ∙ of_json-outline n d h

-- ---- the text

comma_text : (b : Bool) → IsUtf8 (comma_if b)
comma_text true = IsUtf8-are_ascii (44 ∷ []) refl
comma_text false = IsUtf8-nil

mutual
  IsUtf8-compact_text : (n : ℕ) (d : Data) → Fits IsUtf8 n d → IsUtf8 (compact_text d)
  IsUtf8-compact_text n null h = IsUtf8-are_ascii _ refl
  IsUtf8-compact_text n (boolean b) h = IsUtf8-boolean b
  IsUtf8-compact_text n (number x) h = absurd h
  IsUtf8-compact_text n (string s) h = IsUtf8-quoted s h
  IsUtf8-compact_text n (array ds) h = IsUtf8-append (91 ∷ []) (items_text false ds) (IsUtf8-are_ascii (91 ∷ []) refl) (IsUtf8-items_text false (n - 1) ds h.1)
  IsUtf8-compact_text n (object ms) h = IsUtf8-append (123 ∷ []) (members_text false ms) (IsUtf8-are_ascii (123 ∷ []) refl) (IsUtf8-members_text false (n - 1) ms h.1)

  IsUtf8-items_text : (later : Bool) (n : ℕ) (ds : Items) → ItemsFit IsUtf8 n ds → IsUtf8 (items_text later ds)
  IsUtf8-items_text later n no_items h = IsUtf8-are_ascii (93 ∷ []) refl
  IsUtf8-items_text later n (item d ds) h = IsUtf8-append (comma_if later) _ (comma_text later) (IsUtf8-append (compact_text d) (items_text true ds) (IsUtf8-compact_text n d h.0) (IsUtf8-items_text true n ds h.1))

  IsUtf8-members_text : (later : Bool) (n : ℕ) (ms : Members) → MembersFit IsUtf8 n ms → IsUtf8 (members_text later ms)
  IsUtf8-members_text later n no_members h = IsUtf8-are_ascii (125 ∷ []) refl
  IsUtf8-members_text later n (member k d ms) h =
      IsUtf8-append (comma_if later) _ (comma_text later)
      (IsUtf8-append (quoted k) _ (IsUtf8-quoted k h.0)
      (IsUtf8-append (58 ∷ []) _ (IsUtf8-are_ascii (58 ∷ []) refl)
      (IsUtf8-append (compact_text d) (members_text true ms) (IsUtf8-compact_text n d h.2) (IsUtf8-members_text true n ms h.3))))

pub json_of-compact_text : (n : ℕ) (d : Data) → n ≤ max_depth → Fits IsUtf8 n d → json_of (compact_text d) ≡ Some d
json_of-compact_text n d most h = sym (json_read (compact_text d) d (IsUtf8-compact_text n d h, read-compact_text IsUtf8 n d most h))

-- ---- and members that are put in one after another fit where each does

module _ (T : List ℕ → Type 0) (n : ℕ) where
  by_order : (P : Members → Type 0) (o : Ordering) (a b c : Members) → (o ≡ Less → P a) → (o ≡ Equal → P b) → (o ≡ Greater → P c) → P (match_ordering o a b c)
  by_order P Less a b c x y z = x refl
  by_order P Equal a b c x y z = y refl
  by_order P Greater a b c x y z = z refl

  above-put : (l k : List ℕ) (d : Data) (ms : Members) → slice_cmp nat_cmp l k ≡ Less → AllAbove l ms → AllAbove l (put k d ms)
  above-put l k d no_members lt h = (lt, tt)
  above-put l k d (member m e ms) lt h = by_order (AllAbove l) (slice_cmp nat_cmp k m) _ _ _ (λ o. (lt, h)) (λ o. h) (λ o. (h.0, above-put l k d ms lt h.1))

  above_all : (k l : List ℕ) (ms : Members) → slice_cmp nat_cmp k l ≡ Less → AllAbove l ms → AllAbove k ms
  above_all k l no_members lt h = tt
  above_all k l (member m e ms) lt h = (nat_list_cmp_total.trans k l m lt h.0, above_all k l ms lt h.1)

  fits-put : (k : List ℕ) (d : Data) (ms : Members) → T k → Fits T n d → MembersFit T n ms → MembersFit T n (put k d ms)
  fits-put k d no_members t f h = (t, tt, f, tt)
  fits-put k d (member l e ms) t f h =
      by_order (MembersFit T n) (slice_cmp nat_cmp k l) _ _ _
      (λ o. (t, (o, above_all k l ms o h.1), f, h))
      (λ o. (h.0, h.1, f, h.3))
      (λ o. (h.0, above-put l k d ms (nat_list_cmp_total.antisymm l k ∙ ap ordering_reverse o) h.1, h.2, fits-put k d ms t f h.3))

  abbrev pub MemberFits : Member → Type 0
  MemberFits m = T m.0 × Fits T n m.1

  fits-puts : (found : Members) (ms : List Member) → MembersFit T n found → AllByRecursion MemberFits ms → MembersFit T n (puts found ms)
  fits-puts found [] f h = f
  fits-puts found (m ∷ ms) f h = fits-puts (put m.0 m.1 found) ms (fits-put m.0 m.1 found h.0.0 h.0.1 f) h.1

pub dictionary-fits : (T : List ℕ → Type 0) (n : ℕ) (ms : List Member) → 1 ≤ n → AllByRecursion (MemberFits T (n - 1)) ms → Fits T n (dictionary ms)
dictionary-fits T n ms some h = (some, fits-puts T (n - 1) no_members ms tt h)
