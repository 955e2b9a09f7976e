-- What is read is spelled so, and is right.
use Rattle.std.proofs.Common.{◌≡◌, ℕ, zero, suc, ◌+◌, ◌%◌, ◌^◌, ◌<◌, ◌≤◌, Bool, true, false, cond, ltb, ◌&&◌, List, [], ◌∷◌, ◌++◌, length, take, drop, get_or, Option, Some, None, Result, Ok, Err, refl, sym, ap, subst, ◌∙◌, append_assoc, length-append, IsTrue, arith, inl, inr}
use Rattle.std.specs.Int.{Width, w8, w16, w32, byte_len, from_be_bytes, to_be_bytes}
use Rattle.std.specs.List.{flat_map}
use Rattle.std.proofs.lemmas.Bool.{cases_lt, ltb-false, and_parts, and_from}
use Rattle.std.proofs.lemmas.List.{take-append-drop, length-take, get_or-drop, get_or-take, get_or_past}
use Rattle.std.proofs.lemmas.List.Concat.{flat_map-cons}
use Rattle.std.proofs.lemmas.Nat.{be_bytes_2, be_bytes_4}
use Rattle.upd_text.specs.Order.{is_below}
use Rattle.record_codec.specs.Keys.{is_name, is_value, is_pair, ascend}
use Rattle.record_codec.specs.declared.entry.Version.TheVariants.{First, Second}
use Rattle.record_codec.specs.Spelling.{short_text, long_text, pair}
use Rattle.upd_text.specs.Results.{◌>>=◌}
use Rattle.record_codec.specs.Reading.{Rest, field, any, chosen, bytes_at, number_at, choice_at, literal_at, text_at, pair_at, items_at, version_at}
use Rattle.std.specs.Prelude.{slice_get}
use Rattle.std.specs.Prelude.{nat_eq, codes}
use Rattle.std.specs.List.{starts_with}
use Rattle.std.specs.Cmp.Lexicographic.{bytes_decides}
use Rattle.record_codec.proofs.Again.{Spells}

abbrev pub IsBytes : List ℕ → Type 0
IsBytes bytes = (i : ℕ) → get_or bytes i 0 < 256

pub IsBytes-drop : (n : ℕ) (bytes : List ℕ) → IsBytes bytes → IsBytes (drop n bytes)
IsBytes-drop n bytes h i = rw get_or-drop (h (n + i))

pub IsBytes-take : (n : ℕ) (bytes : List ℕ) → IsBytes bytes → IsBytes (take n bytes)
IsBytes-take n bytes h i =
    elim (cases_lt i n) [
      | inl lt ↦ rw (get_or-take n bytes i 0 lt) (h i)
      | inr le ↦ rw (get_or_past (take n bytes) i 0 (omega (arith, length-take n bytes))) (omega arith)
    ]

pub bind_ok : {A B : Type 0} (r : Result A ℕ) (f : A → Result B ℕ) (y : B) → (r >>= f) ≡ Ok y → (x : A) × (r ≡ Ok x) × (f x ≡ Ok y)
bind_ok (Ok x) f y e = (x, refl, e)
bind_ok (Err d) f y e = absurd cc

pub guard_ok : {A : Type 0} (b : Bool) (d : ℕ) (x y : A) → cond b (Err d) (Ok x) ≡ Ok y → (b ≡ false) × (x ≡ y)
guard_ok true d x y e = absurd cc
guard_ok false d x y e = (refl, cc)

pub test_ok : {A : Type 0} (b : Bool) (d : ℕ) (x y : A) → cond b (Ok x) (Err d) ≡ Ok y → (b ≡ true) × (x ≡ y)
test_ok true d x y e = (refl, cc)
test_ok false d x y e = absurd cc

pub field_ok : {A : Type 0} (r : Rest) (x : Result A ℕ) (y : A) → field r x ≡ Ok y → x ≡ Ok y
field_ok r (Ok x) y e = e
field_ok r (Err d) y e = absurd cc

-- the text was read, what is left are bytes
pub record Found (text : List ℕ) (r s : Rest) : Type 0 where
  pub spells : Spells text r s
  pub left : IsBytes s.bytes

pub then : (t u : List ℕ) (r m s : Rest) → Found t r m → Found u m s → Found (t ++ u) r s
then t u r m s p q = record {
  spells = record {
    parts = p.spells.parts ∙ ap (λ (x : List ℕ). t ++ x) q.spells.parts ∙ sym (append_assoc t u s.bytes);
    place = omega (arith, p.spells.place, q.spells.place, length-append t u);
  };
  left = q.left;
}

pub bytes_found : (n : ℕ) (r : Rest) (x : List ℕ × Rest) → IsBytes r.bytes → bytes_at n r ≡ Ok x → Found x.0 r x.1 × (length x.0 ≡ n) × IsBytes x.0
unfolding bytes_at
bytes_found n r x fits e =
    let made : List ℕ × Rest = (take n r.bytes, record { at = r.at + n; bytes = drop n r.bytes }) in
    let g = guard_ok (ltb (length r.bytes) n) r.at made x e in
    let long : n ≤ length r.bytes = ltb-false _ _ g.0 in
    let l : length (take n r.bytes) ≡ n = omega (arith, length-take n r.bytes) in
    subst (λ (y : List ℕ × Rest). Found y.0 r y.1 × (length y.0 ≡ n) × IsBytes y.0) g.1
    (record { spells = record { parts = sym (take-append-drop n r.bytes); place = omega (arith, l) }; left = IsBytes-drop n r.bytes fits }, l, IsBytes-take n r.bytes fits)

pub record IsExact (w : Width) (limit : ℕ) : Type 0 where
  pub back : (bytes : List ℕ) → length bytes ≡ byte_len w → IsBytes bytes → to_be_bytes w (from_be_bytes w bytes) ≡ bytes
  pub below : (bytes : List ℕ) → IsBytes bytes → from_be_bytes w bytes < limit

pub exact16 : IsExact w16 (2 ^ 16)
exact16 = record { back = λ bytes len fits. be_bytes_2 bytes _ len fits refl; below = λ bytes fits. omega (arith, fits 0, fits 1) }

pub exact32 : IsExact w32 (2 ^ 32)
exact32 = record { back = λ bytes len fits. be_bytes_4 bytes _ len fits refl; below = λ bytes fits. omega (arith, fits 0, fits 1, fits 2, fits 3) }

pub number_found : (w : Width) (limit : ℕ) (exact : IsExact w limit) (right : ℕ → Bool) (r : Rest) (x : ℕ × Rest) → IsBytes r.bytes → number_at w right r ≡ Ok x → Found (to_be_bytes w x.0) r x.1 × (x.0 < limit) × (right x.0 ≡ true)
unfolding number_at
number_found w limit exact right r x fits e =
    let a = bind_ok (bytes_at (byte_len w) r) (λ digits. cond (right (from_be_bytes w digits.0)) (Ok (from_be_bytes w digits.0, digits.1)) (Err r.at)) x e in
    let made : ℕ × Rest = (from_be_bytes w a.0.0, a.0.1) in
    let g = test_ok (right (from_be_bytes w a.0.0)) r.at made x a.2 in
    let f = bytes_found (byte_len w) r a.0 fits a.1 in
    subst (λ (y : ℕ × Rest). Found (to_be_bytes w y.0) r y.1 × (y.0 < limit) × (right y.0 ≡ true)) g.1
    (subst (λ (t : List ℕ). Found t r a.0.1) (sym (exact.back a.0.0 f.1 f.2)) f.0, exact.below a.0.0 f.2, g.0)

pub text_found : (w : Width) (limit : ℕ) (exact : IsExact w limit) (right : List ℕ → Bool) (r : Rest) (x : List ℕ × Rest) → IsBytes r.bytes → text_at w right r ≡ Ok x → Found (to_be_bytes w (length x.0) ++ x.0) r x.1 × (length x.0 < limit) × (right x.0 ≡ true)
unfolding text_at
text_found w limit exact right r x fits e =
    let inner = field_ok r (number_at w any r >>= λ size. bytes_at size.0 size.1 >>= λ text. cond (right text.0) (Ok text) (Err r.at)) x e in
    let a = bind_ok (number_at w any r) (λ size. bytes_at size.0 size.1 >>= λ text. cond (right text.0) (Ok text) (Err r.at)) x inner in
    let b = bind_ok (bytes_at a.0.0 a.0.1) (λ text. cond (right text.0) (Ok text) (Err r.at)) x a.2 in
    let g = test_ok (right b.0.0) r.at b.0 x b.2 in
    let f = number_found w limit exact any r a.0 fits a.1 in
    let h = bytes_found a.0.0 a.0.1 b.0 f.0.left b.1 in
    let size : Found (to_be_bytes w (length b.0.0)) r a.0.1 = subst (λ (n : ℕ). Found (to_be_bytes w n) r a.0.1) (sym h.1) f.0 in
    subst (λ (y : List ℕ × Rest). Found (to_be_bytes w (length y.0) ++ y.0) r y.1 × (length y.0 < limit) × (right y.0 ≡ true)) g.1
    (then (to_be_bytes w (length b.0.0)) b.0.0 r a.0.1 b.0.1 size h.0, omega (arith, h.1, f.1), g.0)

pub pair_found : (last : List ℕ) (r : Rest) (x : (List ℕ × List ℕ) × Rest) → IsBytes r.bytes → pair_at last r ≡ Ok x → Found (pair x.0) r x.1 × IsTrue (is_pair x.0) × IsTrue (is_below last x.0.0)
unfolding pair_at pair long_text
pair_found last r x fits e =
    let right : List ℕ → Bool = λ k. is_name k && is_below last k in
    let a = bind_ok (text_at w16 right r) (λ key. text_at w16 is_value key.1 >>= λ value. Ok ((key.0, value.0), value.1)) x e in
    let b = bind_ok (text_at w16 is_value a.0.1) (λ value. Ok ((a.0.0, value.0), value.1)) x a.2 in
    let f = text_found w16 (2 ^ 16) exact16 right r a.0 fits a.1 in
    let h = text_found w16 (2 ^ 16) exact16 is_value a.0.1 b.0 f.0.left b.1 in
    let k = and_parts _ _ f.2 in
    let made : (List ℕ × List ℕ) × Rest = ((a.0.0, b.0.0), b.0.1) in
    let same : made ≡ x = cc in
    subst (λ (y : (List ℕ × List ℕ) × Rest). Found (pair y.0) r y.1 × IsTrue (is_pair y.0) × IsTrue (is_below last y.0.0)) same
    (then (to_be_bytes w16 (length a.0.0) ++ a.0.0) (to_be_bytes w16 (length b.0.0) ++ b.0.0) r a.0.1 b.0.1 f.0 h.0, and_from _ _ k.0 h.2, k.1)

module _ {A : Type 0} (key : A → List ℕ) (right : A → Bool) (spell : A → List ℕ) (item : List ℕ → Rest → Result (A × Rest) ℕ)
    (one : (last : List ℕ) (r : Rest) (x : A × Rest) → IsBytes r.bytes → item last r ≡ Ok x → Found (spell x.0) r x.1 × IsTrue (right x.0) × IsTrue (is_below last (key x.0))) where
  pub items_found : (n : ℕ) (last : List ℕ) (r : Rest) (x : List A × Rest) → IsBytes r.bytes → items_at key item n last r ≡ Ok x → Found (flat_map spell x.0) r x.1 × (length x.0 ≡ n) × IsTrue (ascend key right last x.0)
  unfolding items_at
  items_found zero last r x fits e =
      let made : List A × Rest = ([], r) in
      let same : made ≡ x = cc in
      subst (λ (y : List A × Rest). Found (flat_map spell y.0) r y.1 × (length y.0 ≡ 0) × IsTrue (ascend key right last y.0)) same
      (record { spells = record { parts = refl; place = omega arith }; left = fits }, refl, refl)
  items_found (suc n) last r x fits e =
      let a = bind_ok (item last r) (λ first. items_at key item n (key first.0) first.1 >>= λ others. Ok (first.0 ∷ others.0, others.1)) x e in
      let b = bind_ok (items_at key item n (key a.0.0) a.0.1) (λ others. Ok (a.0.0 ∷ others.0, others.1)) x a.2 in
      let f = one last r a.0 fits a.1 in
      let h = items_found n (key a.0.0) a.0.1 b.0 f.0.left b.1 in
      let made : List A × Rest = (a.0.0 ∷ b.0.0, b.0.1) in
      let same : made ≡ x = cc in
      let all : Found (spell a.0.0 ++ flat_map spell b.0.0) r b.0.1 = then (spell a.0.0) (flat_map spell b.0.0) r a.0.1 b.0.1 f.0 h.0 in
      subst (λ (y : List A × Rest). Found (flat_map spell y.0) r y.1 × (length y.0 ≡ suc n) × IsTrue (ascend key right last y.0)) same
      (subst (λ (t : List ℕ). Found t r b.0.1) (sym (flat_map-cons spell a.0.0 b.0.0)) all, ap suc h.1, and_from _ _ (and_from _ _ f.1 f.2) h.2)

-- ---- a byte that chooses
pub exact8 : IsExact w8 (2 ^ 8)
exact8 = record { back = λ bytes len fits. one_back bytes len fits; below = λ bytes fits. omega (arith, fits 0) }
  where
    one_back : (bytes : List ℕ) → length bytes ≡ 1 → IsBytes bytes → to_be_bytes w8 (from_be_bytes w8 bytes) ≡ bytes
    one_back [] len fits = absurd (omega arith)
    one_back (b ∷ []) len fits = ap (λ (n : ℕ). n ∷ []) (omega (arith, fits 0))
    one_back (b ∷ (c ∷ bs)) len fits = absurd (omega arith)

pub chosen_ok : {A : Type 0} (right : A → Bool) (at : ℕ) (rest : Rest) (o : Option A) (x : A × Rest) → chosen right at rest o ≡ Ok x → (o ≡ Some x.0) × (right x.0 ≡ true) × (rest ≡ x.1)
chosen_ok right at rest None x e = absurd cc
chosen_ok right at rest (Some y) x e =
    let made : _ × Rest = (y, rest) in
    let g = test_ok (right y) at made x e in
    subst (λ (z : _ × Rest). (Some y ≡ Some z.0) × (right z.0 ≡ true) × (rest ≡ z.1)) g.1 (refl, g.0, refl)

pub choice_found : {A : Type 0} (all : List A) (right : A → Bool) (r : Rest) (x : A × Rest) → IsBytes r.bytes → choice_at all right r ≡ Ok x → (b : ℕ) × (slice_get all b ≡ Some x.0) × (right x.0 ≡ true) × Found (b ∷ []) r x.1
unfolding choice_at
choice_found all right r x fits e =
    let a = bind_ok (number_at w8 any r) (λ byte. chosen right r.at byte.1 (slice_get all byte.0)) x e in
    let f = number_found w8 (2 ^ 8) exact8 any r a.0 fits a.1 in
    let c = chosen_ok right r.at a.0.1 (slice_get all a.0.0) x a.2 in
    let small : a.0.0 % 256 ≡ a.0.0 = omega (arith, f.1) in
    (a.0.0, c.0, c.1, subst (λ (s : Rest). Found (a.0.0 ∷ []) r s) c.2 (subst (λ (n : ℕ). Found (n ∷ []) r a.0.1) small f.0))

-- the items have the numbers from n on, in order
abbrev pub AreCoded : {A : Type 0} → (A → ℕ) → ℕ → List A → Type 0
AreCoded code n [] = Unit {0}
AreCoded code n (x ∷ xs) = (code x ≡ n) × AreCoded code (suc n) xs

coded_at : {A : Type 0} (code : A → ℕ) (n : ℕ) (all : List A) → AreCoded code n all → (b : ℕ) (x : A) → slice_get all b ≡ Some x → n + b ≡ code x
coded_at code n [] coded b x is = absurd cc
coded_at code n (y ∷ ys) coded zero x is = let e : y ≡ x = cc in omega (arith, coded.0, ap code e)
coded_at code n (y ∷ ys) coded (suc b) x is = omega (arith, coded_at code (suc n) ys coded.1 b x is)

pub coded_found : {A : Type 0} (code : A → ℕ) (all : List A) → AreCoded code 0 all → (right : A → Bool) (r : Rest) (x : A × Rest) → IsBytes r.bytes → choice_at all right r ≡ Ok x → Found (code x.0 ∷ []) r x.1 × (right x.0 ≡ true)
coded_found code all coded right r x fits e =
    let c = choice_found all right r x fits e in
    let same : c.0 ≡ code x.0 = omega (arith, coded_at code 0 all coded c.0 x.0 c.1) in
    (subst (λ (n : ℕ). Found (n ∷ []) r x.1) same c.3, c.2)

-- ---- a small number, a short text, fixed bytes
pub byte_found : (right : ℕ → Bool) (r : Rest) (x : ℕ × Rest) → IsBytes r.bytes → number_at w8 right r ≡ Ok x → Found (x.0 ∷ []) r x.1 × (x.0 < 2 ^ 8) × (right x.0 ≡ true)
byte_found right r x fits e =
    let f = number_found w8 (2 ^ 8) exact8 right r x fits e in
    let small : x.0 % 256 ≡ x.0 = omega (arith, f.1) in
    (subst (λ (n : ℕ). Found (n ∷ []) r x.1) small f.0, f.1, f.2)

pub short_found : (right : List ℕ → Bool) (r : Rest) (x : List ℕ × Rest) → IsBytes r.bytes → text_at w8 right r ≡ Ok x → Found (short_text x.0) r x.1 × (right x.0 ≡ true)
unfolding short_text
short_found right r x fits e =
    let f = text_found w8 (2 ^ 8) exact8 right r x fits e in
    let small : length x.0 % 256 ≡ length x.0 = omega (arith, f.1) in
    (subst (λ (n : ℕ). Found (n ∷ x.0) r x.1) small f.0, f.2)

pub literal_found : (text : List ℕ) (r s : Rest) → IsBytes r.bytes → literal_at text r ≡ Ok s → Found text r s
unfolding literal_at
literal_found text r s fits e =
    let made : Rest = record { at = r.at + length text; bytes = drop (length text) r.bytes } in
    let t = test_ok (starts_with nat_eq r.bytes text) r.at made s e in
    let front : text ≡ take (length text) r.bytes = (bytes_decides text (take (length text) r.bytes)).0 t.0 in
    let parts : r.bytes ≡ text ++ drop (length text) r.bytes = sym (take-append-drop (length text) r.bytes) ∙ ap (λ (x : List ℕ). x ++ drop (length text) r.bytes) (sym front) in
    subst (λ (y : Rest). Found text r y) t.1 (record { spells = record { parts = parts; place = refl }; left = IsBytes-drop (length text) r.bytes fits })

-- ---- the version, by the first four bytes
test_err : {A : Type 0} (b : Bool) (d offset : ℕ) (x : A) → cond b (Ok x) (Err d) ≡ Err offset → b ≡ false
test_err true d offset x e = absurd cc
test_err false d offset x e = refl

pub version_first : (r s : Rest) → literal_at (codes "MUP1") r ≡ Ok s → version_at r ≡ Ok (First, s)
unfolding version_at literal_at
version_first r s h =
    let t = test_ok (starts_with nat_eq r.bytes (codes "MUP1")) r.at (record { at = r.at + 4; bytes = drop 4 r.bytes }) s h in
    rw t.0 (ap (λ (x : Rest). Ok (First, x)) t.1)

not_first : (r : Rest) (offset : ℕ) → literal_at (codes "MUP1") r ≡ Err offset → starts_with nat_eq r.bytes (codes "MUP1") ≡ false
unfolding literal_at
not_first r offset h = test_err (starts_with nat_eq r.bytes (codes "MUP1")) r.at offset (record { at = r.at + 4; bytes = drop 4 r.bytes }) h

pub version_second : (r s : Rest) (offset : ℕ) → literal_at (codes "MUP1") r ≡ Err offset → literal_at (codes "MUP2") r ≡ Ok s → version_at r ≡ Ok (Second, s)
unfolding version_at
version_second r s offset none h = rw (not_first r offset none, h) refl

pub version_none : (r : Rest) (offset wrong : ℕ) → literal_at (codes "MUP1") r ≡ Err offset → literal_at (codes "MUP2") r ≡ Err wrong → version_at r ≡ Err wrong
unfolding version_at
version_none r offset wrong none h = rw (not_first r offset none, h) refl
