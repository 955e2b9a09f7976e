-- A record in parts.
use Rattle.std.proofs.Common.{◌≡◌, ℕ, ◌≤◌, List, ◌++◌, length, take, drop, refl, sym, ap, subst, ◌∙◌, arith}
use Rattle.std.specs.Int.{w32, to_be_bytes}
use Rattle.record_codec.specs.declared.entry.Entry.{Entry}
use Rattle.flow_table.specs.declared.position.Position.{Position}
use Rattle.record_codec.specs.Writing.{Puts}
use Rattle.record_codec.specs.declared.entry.Version.{Version}
use Rattle.record_codec.specs.declared.entry.Version.TheVariants.{First, Second}
use Rattle.record_codec.specs.Spelling.{magic, marks, position_bytes, body, head, record_length, record_of}
use Rattle.record_codec.proofs.Puts.{patched}

-- what stands behind the position
abbrev pub after : Version → Entry → List ℕ → List ℕ
after v e rest = marks v e ++ (to_be_bytes w32 (record_length e) ++ (body e ++ rest))

pub record_split : (v : Version) (e : Entry) (rest : List ℕ) → record_of v e ++ rest ≡ magic v ++ position_bytes e.position ++ after v e rest
unfolding record_of head position_bytes
record_split First e rest = refl
record_split Second e rest = refl

pub after_same : (v : Version) (e : Entry) (p : Position) (rest : List ℕ) → after v (record e { position = p }) rest ≡ after v e rest
unfolding body
after_same First e p rest = refl
after_same Second e p rest = refl

pub position_len : (p : Position) → length (position_bytes p) ≡ 5
unfolding position_bytes
position_len p = refl

pub magic_len : (v : Version) → length (magic v) ≡ 4
magic_len First = refl
magic_len Second = refl

pub record_long : (v : Version) (e : Entry) (rest : List ℕ) → 16 ≤ length (record_of v e ++ rest)
unfolding record_of head position_bytes
record_long First e rest = omega arith
record_long Second e rest = omega arith

pub patched_record : (v : Version) (e : Entry) (rest : List ℕ) (p : Position) (old new : List ℕ) (stop : ℕ) → old ≡ record_of v e ++ rest → Puts old 4 (position_bytes p) new stop → new ≡ record_of v (record e { position = p }) ++ rest
patched_record v e rest p old new stop is puts =
    let q : Puts (magic v ++ position_bytes e.position ++ after v e rest) 4 (position_bytes p) new stop = subst (λ (o : List ℕ). Puts o 4 (position_bytes p) new stop) (is ∙ record_split v e rest) puts in
    let k : Puts (magic v ++ position_bytes e.position ++ after v e rest) (length (magic v)) (position_bytes p) new stop = subst (λ (n : ℕ). Puts (magic v ++ position_bytes e.position ++ after v e rest) n (position_bytes p) new stop) (sym (magic_len v)) q in
    patched (magic v) (position_bytes e.position) (position_bytes p) (after v e rest) new stop (position_len e.position ∙ sym (position_len p)) k
    ∙ ap (λ (t : List ℕ). magic v ++ position_bytes p ++ t) (sym (after_same v e p rest)) ∙ sym (record_split v (record e { position = p }) rest)

pub head_len : (v : Version) (e : Entry) → length (head v e) ≡ 16
unfolding head position_bytes
head_len First e = refl
head_len Second e = refl

pub whole_is : (v : Version) (e : Entry) → (head v e ++ body e) ≡ record_of v e
unfolding record_of
whole_is v e = refl

pub record_differs : (v : Version) (e : Entry) (p : Position) → record_of v (record e { position = p }) ≡ take 4 (record_of v e) ++ position_bytes p ++ drop 9 (record_of v e)
unfolding body head record_of position_bytes
record_differs First e p = refl
record_differs Second e p = refl
