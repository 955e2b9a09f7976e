-- The frame of a key, and base64, are read in one way.
use Rattle.std.proofs.Common.{suc, ◌≡◌, ℕ, ◌+◌, ◌<◌, inl, inr, Bool, true, false, not, List, [], ◌∷◌, ◌++◌, length, get_or, take, drop, ltb, Option, Some, None, refl, sym, ap, subst, ◌∙◌, arith, length-append, append_assoc, take-append-drop, take_at, drop_at}
use Rattle.std.specs.Prelude.{codes, position}
use Rattle.std.specs.List.{AllPass, position_or_len}
use Rattle.std.specs.Option.{option_and_then}
use Rattle.std.proofs.lemmas.Bool.{lt-ltb, not-true, not-false, cases_Bool, cases_lt}
use Rattle.std.proofs.lemmas.List.Elements.{All-head, All-tail}
use Rattle.std.proofs.lemmas.List.Sums.{prefix_len-le-length, fails_before_first}
use Rattle.std.proofs.lemmas.List.Quantifiers.{position-Some}
use Rattle.std.proofs.lemmas.Option.{cond_some, none-some, option_and_then_some, some_pair_parts}
use Rattle.std.proofs.Common.{Result, Ok}
use Rattle.std.proofs.lemmas.List.{nil_from_length, length-drop, length-take-le, get_or-take}
use Rattle.base64.specs.declared.decode.DecodeError.{DecodeError}
use Rattle.base64.specs.GeneralPurpose.{encode_of, decode_of}
use Rattle.base64.specs.Engines.{standard}
use Rattle.base64.proofs.EngineFacts.{decode_of-encode_of}
use Rattle.key_text.specs.Pem.{IsPem, is_dash, is_line_end, IsFramed, IsBase64}
use Rattle.key_text.specs.Reading.{stripped, behind_line_ends, frame_at}
use Rattle.key_text.proofs.DerLemmas.{stripped_gives, stripped_takes}

first_behind : (front rest : List ℕ) → AllPass (λ b. not (is_dash b)) front → position_or_len is_dash (front ++ 45 ∷ rest) ≡ length front
first_behind [] rest none = refl
first_behind (x ∷ xs) rest none =
    let e : is_dash x ≡ false = not-true (is_dash x) (All-head (λ b. not (is_dash b) ≡ true) x xs none) in
    let ih = first_behind xs rest (All-tail (λ b. not (is_dash b) ≡ true) x xs none) in
    rw e (omega (arith, ih))

pub position_behind : (front rest : List ℕ) → AllPass (λ b. not (is_dash b)) front → position is_dash (front ++ 45 ∷ rest) ≡ Some (length front)
position_behind front rest none =
    let e = first_behind front rest none in
    let lt : length front < length (front ++ 45 ∷ rest) = omega (arith, length-append front (45 ∷ rest)) in
    rw (e, lt-ltb _ _ lt) refl

-- what stands before the first dash has none
front_without : (text : List ℕ) (at : ℕ) → position is_dash text ≡ Some at → AllPass (λ b. not (is_dash b)) (take at text)
front_without text at h k d lt =
    let p = position-Some is_dash text at d h in
    let at_end : length (take at text) ≡ at = length-take-le at text (omega (arith, p.0)) in
    let less : k < at = omega (arith, lt, at_end) in
    let same : get_or (take at text) k d ≡ get_or text k d = get_or-take at text k d less in
    ap (λ x. not (is_dash x)) same ∙ ap not (p.2 k less)

-- ---- line ends

abbrev pub past : ℕ → Bool
past b = not (is_line_end b)

abbrev line_ends_of : List ℕ → List ℕ
line_ends_of text = take (position_or_len past text) text

ends_before : (text : List ℕ) → text ≡ line_ends_of text ++ behind_line_ends text
unfolding behind_line_ends
ends_before text = sym (take-append-drop (position_or_len past text) text)

all_line_ends : (text : List ℕ) → AllPass is_line_end (line_ends_of text)
all_line_ends text k d lt =
    let n = position_or_len past text in
    let count : length (take n text) ≡ n = length-take-le n text (prefix_len-le-length (λ x. not (past x)) text) in
    let less : k < n = omega (arith, lt, count) in
    let same : get_or (take n text) k d ≡ get_or text k d = get_or-take n text k d less in
    ap is_line_end same ∙ not-false (is_line_end (get_or text k d)) (fails_before_first past text k d less)

none_behind : (text : List ℕ) → is_line_end (get_or (behind_line_ends text) 0 0) ≡ false
unfolding behind_line_ends
none_behind [] = refl
none_behind (x ∷ xs) =
    let more : 1 + position_or_len past xs ≡ suc (position_or_len past xs) = omega arith in
    elim (cases_Bool (is_line_end x)) [
      | inl e ↦ rw (e, more) (none_behind xs)
      | inr e ↦ rw e e
    ]

-- what their reader answers
pub behind_at : (text : List ℕ) (at : ℕ) → position past text ≡ Some at → drop at text ≡ behind_line_ends text
unfolding behind_line_ends
behind_at text at h =
    let n = position_or_len past text in
    let c = cond_some (ltb n (length text)) n at h in
    ap (λ i. drop i text) (sym c.1)

pub behind_all : (text : List ℕ) → position past text ≡ None → [] ≡ behind_line_ends text
unfolding behind_line_ends
behind_all text h =
    let n = position_or_len past text in
    elim (cases_lt n (length text)) [
      | inl less ↦ absurd (none-some n (sym h ∙ rw (lt-ltb n (length text) less) refl))
      | inr all ↦ sym (nil_from_length (drop n text) (let count = length-drop n text in omega (arith, count)))
    ]

past_line_ends : (ends rest : List ℕ) → AllPass is_line_end ends → is_line_end (get_or rest 0 0) ≡ false → behind_line_ends (ends ++ rest) ≡ rest
unfolding behind_line_ends
past_line_ends [] [] all first = refl
past_line_ends [] (x ∷ xs) all first = rw first refl
past_line_ends (x ∷ xs) rest all first =
    let e : is_line_end x ≡ true = All-head (λ b. is_line_end b ≡ true) x xs all in
    let more : 1 + position_or_len past (xs ++ rest) ≡ suc (position_or_len past (xs ++ rest)) = omega arith in
    rw (e, more) (past_line_ends xs rest (All-tail (λ b. is_line_end b ≡ true) x xs all) first)

-- ---- the frame

abbrev pieces : List ℕ → List ℕ → Option (List ℕ × List ℕ)
pieces body rest = Some (body, rest)

-- both lines
abbrev pub begin_line : List ℕ
begin_line = codes "-----BEGIN PUBLIC KEY-----"

abbrev pub end_line : List ℕ
end_line = codes "-----END PUBLIC KEY-----"

regrouped : (b body e ends rest : List ℕ) → b ++ (body ++ (e ++ (ends ++ rest))) ≡ b ++ body ++ e ++ ends ++ rest
regrouped b body e ends rest = sym (append_assoc b body (e ++ (ends ++ rest))) ∙ sym (append_assoc (b ++ body) e (ends ++ rest)) ∙ sym (append_assoc (b ++ body ++ e) ends rest)

pub frame_gives : (text body rest : List ℕ) → frame_at text ≡ Some (body, rest) → IsFramed text body rest
unfolding frame_at
frame_gives text body rest h =
    option_and_then_some (λ inside. option_and_then (λ at. option_and_then (λ after. pieces (take at inside) (behind_line_ends after)) (stripped end_line (drop at inside))) (position is_dash inside)) (stripped begin_line text) (body, rest) h (λ inside p1 h1.
    option_and_then_some (λ at. option_and_then (λ after. pieces (take at inside) (behind_line_ends after)) (stripped end_line (drop at inside))) (position is_dash inside) (body, rest) h1 (λ at p2 h2.
    option_and_then_some (λ after. pieces (take at inside) (behind_line_ends after)) (stripped end_line (drop at inside)) (body, rest) h2 (λ after p3 h3.
    let c = some_pair_parts (take at inside) body (behind_line_ends after) rest h3 in
    let a : text ≡ begin_line ++ inside = stripped_gives begin_line text inside p1 in
    let b : drop at inside ≡ end_line ++ after = stripped_gives end_line (drop at inside) after p3 in
    let ends = line_ends_of after in
    let split : inside ≡ body ++ (end_line ++ (ends ++ rest)) =
    sym (take-append-drop at inside) ∙ ap (λ (l : List ℕ). l ++ drop at inside) c.0 ∙ ap (λ (l : List ℕ). body ++ l) (b ∙ ap (λ (l : List ℕ). end_line ++ l) (ends_before after ∙ ap (λ (l : List ℕ). ends ++ l) c.1)) in
    record {
      ends = ends;
      parts = a ∙ ap (λ (l : List ℕ). begin_line ++ l) split ∙ regrouped begin_line body end_line ends rest;
      no_dash = subst (λ (l : List ℕ). AllPass (λ x. not (is_dash x)) l) c.0 (front_without inside at p2);
      line_ends = all_line_ends after;
      behind = subst (λ (l : List ℕ). is_line_end (get_or l 0 0) ≡ false) c.1 (none_behind after);
    })))

pub frame_takes : (text body rest : List ℕ) → IsFramed text body rest → frame_at text ≡ Some (body, rest)
unfolding frame_at
frame_takes text body rest f =
    let after = f.ends ++ rest in
    let inside = body ++ (end_line ++ after) in
    let whole : text ≡ begin_line ++ inside = f.parts ∙ sym (regrouped begin_line body end_line f.ends rest) in
    let a : stripped begin_line text ≡ Some inside = ap (stripped begin_line) whole ∙ stripped_takes begin_line inside in
    let b : position is_dash inside ≡ Some (length body) = position_behind body (drop 1 end_line ++ after) f.no_dash in
    let t : take (length body) inside ≡ body = take_at body (end_line ++ after) (length body) refl in
    let d : drop (length body) inside ≡ end_line ++ after = drop_at body (end_line ++ after) (length body) refl in
    let e : stripped end_line (drop (length body) inside) ≡ Some after = ap (stripped end_line) d ∙ stripped_takes end_line after in
    let r : behind_line_ends after ≡ rest = past_line_ends f.ends rest f.line_ends f.behind in
    rw (a, b, e, t, r) refl

-- ---- base64

abbrev ok_of : List ℕ → Result (List ℕ) DecodeError
ok_of a = Ok a

same_ok : (a b : List ℕ) → ok_of a ≡ ok_of b → a ≡ b
same_ok a b h = cc

pub same_bytes : (text a b : List ℕ) → IsBase64 text a → IsBase64 text b → a ≡ b
same_bytes text a b first second =
    let same : encode_of standard a ≡ encode_of standard b = sym first.spelled ∙ second.spelled in
    let one = decode_of-encode_of standard a refl first.octets in
    let two = decode_of-encode_of standard b refl second.octets in
    same_ok a b (sym one ∙ ap (decode_of standard) same ∙ two)

pub same_octets : (text a b r s : List ℕ) → IsPem text a r → IsPem text b s → (a ≡ b) × (r ≡ s)
same_octets text a b r s p q =
    let same = some_pair_parts p.body q.body r s (sym (frame_takes text p.body r p.framed) ∙ frame_takes text q.body s q.framed) in
    (same_bytes q.body a b (subst (λ (l : List ℕ). IsBase64 l a) same.0 p.base64) q.base64, same.1)
