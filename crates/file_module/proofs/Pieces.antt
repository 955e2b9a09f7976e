-- What was copied so far.
use Rattle.std.proofs.Common.{◌≡◌, ℕ, ◌+◌, ◌-◌, ◌≤◌, List, ◌++◌, length, take, drop, refl, sym, ◌∙◌, ap, subst, arith, take-add, append_assoc}
use Rattle.std.specs.Prelude.{Option, Some, None, option_map}
use Rattle.std.proofs.lemmas.List.{drop-drop}
use Rattle.file_module.specs.Contents.{Contents}
use Rattle.file_module.specs.Calls.{Gives}
use Rattle.file_module.specs.Copying.{piece, AddsFresh, CopiesPiece}
use Rattle.file_module.specs.Payload.{When}
use Rattle.io_model.specs.Source.{Content, bytes_at}
use Rattle.io_model.specs.Source.Content.{Told, Untold}

-- what a read gives is that piece
pub piece_of : (held : Option (List ℕ)) (at count : ℕ) (into : List ℕ) → Gives held at into → length into ≡ count → into ≡ piece at count held
piece_of None at count into h e = absurd h
piece_of (Some bytes) at count into h e = h ∙ ap (λ (n : ℕ). take n (drop at bytes)) e

added_twice : (bytes more : List ℕ) (fresh : Option (List ℕ)) → option_map (λ (l : List ℕ). l ++ more) (option_map (λ (l : List ℕ). l ++ bytes) fresh) ≡ option_map (λ (l : List ℕ). l ++ (bytes ++ more)) fresh
added_twice bytes more None = refl
added_twice bytes more (Some l) = ap Some (append_assoc l bytes more)

pub adds_then : (bytes more : List ℕ) (old mid new : Contents) → AddsFresh bytes old mid → AddsFresh more mid new → AddsFresh (bytes ++ more) old new
adds_then bytes more old mid new a b = b ∙ ap (λ (o : Option (List ℕ)). option_map (λ (l : List ℕ). l ++ more) o) a ∙ added_twice bytes more old.fresh

pub drop_more : (n m : ℕ) (l : List ℕ) → drop (n + m) l ≡ drop m (drop n l)
drop_more n m l = sym (drop-drop m n l)

within : (bytes : List ℕ) (from k count : ℕ) → take k (drop from bytes) ++ take count (drop (from + k) bytes) ≡ take (k + count) (drop from bytes)
within bytes from k count = ap (λ (l : List ℕ). take k (drop from bytes) ++ take count l) (drop_more from k bytes) ∙ sym (take-add k count (drop from bytes))

-- a piece, and the next one behind it
pub piece_more : (held : Option (List ℕ)) (from at count : ℕ) → from ≤ at → piece from (at - from) held ++ piece at count held ≡ piece from (at + count - from) held
piece_more None from at count le = refl
piece_more (Some bytes) from at count le =
    let at_is : from + (at - from) ≡ at = omega arith in
    let count_is : at - from + count ≡ at + count - from = omega arith in
    ap (λ (n : ℕ). take (at - from) (drop from bytes) ++ take count (drop n bytes)) (sym at_is) ∙ within bytes from (at - from) count ∙ ap (λ (n : ℕ). take n (drop from bytes)) count_is

-- what was copied of a file so far
pub record SoFar (files : Content) (i at : ℕ) (old now : Contents) : Type 0 where
  pub bytes : List ℕ
  pub added : AddsFresh bytes old now
  pub same : When files (λ t. bytes ≡ take at (bytes_at t i))

same_more : (files : Content) (i at count : ℕ) (bytes more : List ℕ) → When files (λ t. bytes ≡ take at (bytes_at t i)) → When files (λ t. more ≡ take count (drop at (bytes_at t i))) → When files (λ t. bytes ++ more ≡ take (at + count) (bytes_at t i))
same_more (Untold n) i at count bytes more h k = tt
same_more (Told t) i at count bytes more h k = ap (λ (l : List ℕ). l ++ more) h ∙ ap (λ (l : List ℕ). take at (bytes_at t i) ++ l) k ∙ sym (take-add at count (bytes_at t i))

pub SoFar-more : (files : Content) (i at count : ℕ) (old mid new : Contents) → SoFar files i at old mid → CopiesPiece files i at count mid new → SoFar files i (at + count) old new
SoFar-more files i at count old mid new h k = record {
  bytes = h.bytes ++ k.bytes;
  added = adds_then h.bytes k.bytes old mid new h.added k.added;
  same = same_more files i at count h.bytes k.bytes h.same k.same;
}

pub pieces_step : (held other : Option (List ℕ)) (from at count n : ℕ) (old mid new : Contents) → from ≤ at → other ≡ held → n ≡ count → AddsFresh (piece from (at - from) held) old mid → AddsFresh (piece at n other) mid new → AddsFresh (piece from (at + count - from) held) old new
pieces_step held other from at count n old mid new le same long a b =
    let next : AddsFresh (piece at count held) mid new = subst (λ (o : Option (List ℕ)). AddsFresh (piece at count o) mid new) same (subst (λ (k : ℕ). AddsFresh (piece at k other) mid new) long b) in
    subst (λ (l : List ℕ). AddsFresh l old new) (piece_more held from at count le) (adds_then (piece from (at - from) held) (piece at count held) old mid new a next)
