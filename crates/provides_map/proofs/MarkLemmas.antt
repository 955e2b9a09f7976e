-- Marks that patterns take away, a pattern after another.
use Rattle.std.proofs.Common.{◌≡◌, ℕ, ◌+◌, ◌-◌, ◌^◌, ◌<◌, Bool, true, false, List, [], ◌∷◌, ◌++◌, length, get_or, take, refl, ap, ◌∙◌, arith}
use Rattle.std.specs.Prelude.{◌||◌, ◌&&◌, not, bit_and}
use Rattle.std.specs.List.{list_any}
use Rattle.std.proofs.lemmas.List.{take_more}
use Rattle.provides_map.specs.Match.{is_match}
use Rattle.provides_map.specs.Pairs.{Pairs}
use Rattle.provides_map.specs.Place.{key_at}
use Rattle.provides_map.specs.After.{is_cleared}
use Rattle.provides_map.specs.Marks.{has_bit, Tells, AreMarks}
use Rattle.provides_map.specs.declared.change.Clears.{Clears}
use Rattle.provides_map.specs.declared.marks.Marks.{Marks}
use Rattle.provides_map.proofs.Bits.{has_bit-and, has_bit-not, has_bit-zero, has_bit-ones}

any_push : (test : List ℕ → Bool) (ps : List (List ℕ)) (p : List ℕ) → list_any test (ps ++ p ∷ []) ≡ (list_any test ps || test p)
any_push test [] p = or_false (test p)
  where
    or_false : (x : Bool) → (x || false) ≡ x
    or_false true = refl
    or_false false = refl
any_push test (q ∷ ps) p = rw (any_push test ps p) (or_assoc (test q) (list_any test ps) (test p))
  where
    or_assoc : (x y z : Bool) → (x || (y || z)) ≡ ((x || y) || z)
    or_assoc true y z = refl
    or_assoc false y z = refl

not_or : (x y : Bool) → (not x && not (not x && y)) ≡ not (x || y)
not_or true y = refl
not_or false y = refl

-- at first all keys are left
pub all_left : (held : Pairs) (start : ℕ) → Tells held start (2 ^ 64 - 1) (λ key. true)
all_left held start = record { at = λ k room within. has_bit-ones k room }

-- where all are cleared, none is left
pub none_left : (held : Pairs) (start : ℕ) → Tells held start 0 (λ key. false)
none_left held start = record { at = λ k room within. has_bit-zero k }

-- the keys that the next pattern matches are taken away
pub told_more : (held : Pairs) (start left found : ℕ) (patterns : List (List ℕ)) (i : ℕ) → i < length patterns → found < 2 ^ 64
    → Tells held start left (λ key. not (list_any (λ p. is_match p key) (take i patterns)))
    → Tells held start found (λ key. not (list_any (λ p. is_match p key) (take i patterns)) && is_match (get_or patterns i []) key)
    → Tells held start (bit_and left (2 ^ 64 - 1 - found)) (λ key. not (list_any (λ p. is_match p key) (take (i + 1) patterns)))
told_more held start left found patterns i lt fits before now = record {
  at = λ k room within.
      has_bit-and left (2 ^ 64 - 1 - found) k
      ∙ rw (has_bit-not found k fits room) (rw (before.at k room within) (rw (now.at k room within) (more (key_at held (start + k)))));
}
  where
    more : (key : List ℕ) → (not (list_any (λ p. is_match p key) (take i patterns)) && not (not (list_any (λ p. is_match p key) (take i patterns)) && is_match (get_or patterns i []) key))
        ≡ not (list_any (λ p. is_match p key) (take (i + 1) patterns))
    more key = rw (take_more patterns i [] lt) (rw (any_push (λ p. is_match p key) (take i patterns) (get_or patterns i [])) (not_or (list_any (λ p. is_match p key) (take i patterns)) (is_match (get_or patterns i []) key)))

-- what a mark says
pub mark_value : (clears : Clears) (held : Pairs) (marks : Marks) (k at : ℕ) → AreMarks clears held marks → marks.start + k ≡ at → k < 64 → at < length held
    → not (has_bit marks.left k) ≡ is_cleared clears (key_at held at)
mark_value clears held marks k at h is room within =
    ap not (h.at k room (omega arith))
    ∙ not_not (is_cleared clears (key_at held (marks.start + k)))
    ∙ ap (λ (i : ℕ). is_cleared clears (key_at held i)) is
  where
    not_not : (x : Bool) → not (not x) ≡ x
    not_not true = refl
    not_not false = refl
