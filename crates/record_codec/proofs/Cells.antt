-- The cell of a position: written, and read again.
use Rattle.std.proofs.Common.{◌≡◌, ℕ, zero, suc, ◌+◌, ◌-◌, ◌<◌, ◌≤◌, Bool, true, false, cond, List, [], ◌∷◌, ◌++◌, length, take, drop, replicate, Option, Some, None, Result, Ok, Err, refl, sym, ap, subst, ◌∙◌, append_assoc, append-nil, length-append, IsTrue, arith}
use Rattle.std.specs.Prelude.{codes, nat_eq, IfOk, IfSome, ◌↔◌}
use Rattle.std.specs.List.{starts_with}
use Rattle.std.proofs.lemmas.List.{take-append-drop, nil_from_length}
use Rattle.flow_table.specs.declared.position.Position.{Position}
use Rattle.record_codec.specs.Spelling.{position_bytes}
use Rattle.record_codec.specs.Writing.{Puts}
use Rattle.upd_text.specs.Results.{◌>>=◌}
use Rattle.record_codec.specs.Reading.{Rest, literal_at, position_at}
use Rattle.record_codec.specs.Cells.{filling, cell_of, IsCell, zeros_at, cell_at, cell}
use Rattle.record_codec.proofs.Record.{position_len}
use Rattle.record_codec.proofs.Puts.{drop_further}
use Rattle.record_codec.proofs.Again.{Spells, first, second, mid, literal_again, position_again}
use Rattle.record_codec.proofs.Found.{IsBytes, Found, then, bind_ok, literal_found}
use Rattle.record_codec.proofs.Whole.{position_found}

-- ---- written

-- two texts one behind the other, over zeros
pub written : (p : Position) (a b : List ℕ) (m e : ℕ) → Puts (replicate 64 0) 0 (codes "MUC1") a m → Puts a 4 (position_bytes p) b e → b ≡ cell_of p
unfolding cell_of filling
written p a b m e h k =
    let four : m ≡ 4 = omega (arith, h.ends) in
    let nine : e ≡ 9 = omega (arith, k.ends, position_len p) in
    let front : take 4 a ≡ codes "MUC1" = rw four at h.front in
    let so_far : take 9 b ≡ codes "MUC1" ++ position_bytes p = rw nine at k.front ∙ ap (λ (t : List ℕ). t ++ position_bytes p) front in
    let behind : drop 9 a ≡ drop 9 (replicate 64 0) = drop_further 4 9 a (replicate 64 0) (omega arith) (rw four at h.rest) in
    let rest : drop 9 b ≡ replicate 55 0 = rw nine at k.rest ∙ behind in
    sym (take-append-drop 9 b) ∙ ap (λ (t : List ℕ). t ++ drop 9 b) so_far ∙ ap (λ (t : List ℕ). (codes "MUC1" ++ position_bytes p) ++ t) rest ∙ append_assoc (codes "MUC1") (position_bytes p) (replicate 55 0)

-- ---- zeros, as a loop reads them
pub zeros_start : (n : ℕ) (r : Rest) → zeros_at (n - 0) r ≡ zeros_at n r
zeros_start n r = ap (λ (k : ℕ). zeros_at k r) (omega arith)

pub zeros_go_on : (count i : ℕ) (r s : Rest) (total : Result Rest ℕ) → i < count → literal_at (0 ∷ []) r ≡ Ok s → zeros_at (count - i) r ≡ total → zeros_at (count - (i + 1)) s ≡ total
unfolding zeros_at
zeros_go_on count i r s total lt read so_far =
    let k : count - i ≡ suc (count - (i + 1)) = omega arith in
    let one : zeros_at (count - i) r ≡ zeros_at (count - (i + 1)) s = rw (k, read) refl in
    sym one ∙ so_far

pub zeros_end : (count i offset : ℕ) (r : Rest) (total : Result Rest ℕ) → i < count → literal_at (0 ∷ []) r ≡ Err offset → zeros_at (count - i) r ≡ total → total ≡ Err offset
unfolding zeros_at
zeros_end count i offset r total lt read so_far =
    let k : count - i ≡ suc (count - (i + 1)) = omega arith in
    let one : zeros_at (count - i) r ≡ Err offset = rw (k, read) refl in
    sym so_far ∙ one

pub zeros_done : (count i : ℕ) (r : Rest) (total : Result Rest ℕ) → count ≤ i → zeros_at (count - i) r ≡ total → total ≡ Ok r
unfolding zeros_at
zeros_done count i r total le so_far =
    let k : count - i ≡ 0 = omega arith in
    let one : zeros_at (count - i) r ≡ Ok r = rw k refl in
    sym so_far ∙ one

-- ---- read again

zeros_again : (n : ℕ) (r s : Rest) → Spells (replicate n 0) r s → zeros_at n r ≡ Ok s
unfolding zeros_at
zeros_again zero r s h =
    let at : s.at ≡ r.at = omega (arith, h.place) in
    rw (at, sym h.parts) refl
zeros_again (suc n) r s h =
    let t : List ℕ = 0 ∷ [] in
    let u : List ℕ = replicate n 0 in
    let m : Rest = mid t u r s in
    rw (literal_again t r m (λ rest. refl) (first t u r s h)) (zeros_again n m s (second t u r s h))

pub cell_again : (p : Position) (bytes : List ℕ) → IsCell bytes p → cell bytes ≡ Ok (Some p)
unfolding cell cell_at cell_of
cell_again p bytes h =
    let r : Rest = record { at = 0; bytes = bytes } in
    let t : List ℕ = codes "MUC1" in
    let u : List ℕ = position_bytes p in
    let v : List ℕ = replicate filling 0 in
    let s : Rest = record { at = length (t ++ u ++ v); bytes = [] } in
    let all : Spells (t ++ u ++ v) r s = record { parts = h.spelled ∙ sym (append-nil (t ++ u ++ v)); place = omega arith } in
    let m : Rest = mid t (u ++ v) r s in
    let rest : Spells (u ++ v) m s = second t (u ++ v) r s all in
    let one = literal_again t r m (λ x. refl) (first t (u ++ v) r s all) in
    let two = position_again p m (mid u v m s) h.valid (first u v m s rest) in
    let three = zeros_again filling (mid u v m s) s (second u v m s rest) in
    let magic : starts_with nat_eq bytes (0 ∷ 0 ∷ 0 ∷ 0 ∷ []) ≡ false = rw h.spelled refl in
    rw (magic, one, two, three) refl

-- ---- what is read is a cell

zeros_found : (n : ℕ) (r s : Rest) → IsBytes r.bytes → zeros_at n r ≡ Ok s → Found (replicate n 0) r s
unfolding zeros_at
zeros_found zero r s fits e =
    let same : r ≡ s = cc in
    subst (λ (y : Rest). Found [] r y) same (record { spells = record { parts = refl; place = omega arith }; left = fits })
zeros_found (suc n) r s fits e =
    let a = bind_ok (literal_at (0 ∷ []) r) (zeros_at n) s e in
    let f = literal_found (0 ∷ []) r a.0 fits a.1 in
    then (0 ∷ []) (replicate n 0) r a.0 s f (zeros_found n a.0 s f.left a.2)

-- so many bytes and no more
only : (text left bytes : List ℕ) → bytes ≡ text ++ left → length bytes ≡ length text → bytes ≡ text
only text left bytes is same =
    let none : left ≡ [] = nil_from_length left (omega (arith, ap length is, length-append text left)) in
    is ∙ ap (λ (t : List ℕ). text ++ t) none ∙ append-nil text

pub cell_len : (p : Position) → length (cell_of p) ≡ 64
unfolding cell_of filling position_bytes
cell_len p = refl

spelt : (bytes : List ℕ) (q : Position) (s : Rest) → length bytes ≡ 64 → Found ((codes "MUC1" ++ position_bytes q) ++ replicate filling 0) (record { at = 0; bytes = bytes }) s → bytes ≡ cell_of q
unfolding cell_of
spelt bytes q s size f = only (cell_of q) s.bytes bytes (f.spells.parts ∙ ap (λ (x : List ℕ). x ++ s.bytes) (append_assoc (codes "MUC1") (position_bytes q) (replicate filling 0))) (size ∙ sym (cell_len q))

cell_found : (bytes : List ℕ) (p : Position) → length bytes ≡ 64 → IsBytes bytes → cell_at (record { at = 0; bytes = bytes }) ≡ Ok p → IsCell bytes p
unfolding cell_at
cell_found bytes p size fits e =
    let r : Rest = record { at = 0; bytes = bytes } in
    let a = bind_ok (literal_at (codes "MUC1") r) _ p e in
    let fa = literal_found (codes "MUC1") r a.0 fits a.1 in
    let b = bind_ok (position_at a.0) _ p a.2 in
    let fb = position_found a.0 b.0 fa.left b.1 in
    let c = bind_ok (zeros_at filling b.0.1) _ p b.2 in
    let fc = zeros_found filling b.0.1 c.0 fb.0.left c.1 in
    let same : b.0.0 ≡ p = cc in
    let t : List ℕ = codes "MUC1" in
    let u : List ℕ = position_bytes b.0.0 in
    let v : List ℕ = replicate filling 0 in
    let all : Found ((t ++ u) ++ v) r c.0 = then (t ++ u) v r b.0.1 c.0 (then t u r a.0 b.0.1 fa fb.0) fc in
    subst (λ (q : Position). IsCell bytes q) same (record { valid = fb.1; spelled = spelt bytes b.0.0 c.0 size all })

-- by whether the first four bytes are zeros
by_zeros : (zeros : Bool) (read : Result Position ℕ) (p : Position) → cond zeros (Ok None) (read >>= λ q. Ok (Some q)) ≡ Ok (Some p) → read ≡ Ok p
by_zeros true read p e = absurd cc
by_zeros false (Ok q) p e = let k : q ≡ p = cc in ap (λ (x : Position). Ok x) k
by_zeros false (Err f) p e = absurd cc

pub said_found : (bytes : List ℕ) (p : Position) → length bytes ≡ 64 → IsBytes bytes → cell bytes ≡ Ok (Some p) → IsCell bytes p
unfolding cell
said_found bytes p size fits e = cell_found bytes p size fits (by_zeros (starts_with nat_eq bytes (0 ∷ 0 ∷ 0 ∷ 0 ∷ [])) (cell_at (record { at = 0; bytes = bytes })) p e)

pub found_of : (answer : Result (Option Position) ℕ) (bytes : List ℕ) → length bytes ≡ 64 → IsBytes bytes → answer ≡ cell bytes → IfOk answer (λ said. IfSome said (IsCell bytes))
found_of (Ok None) bytes size fits is = tt
found_of (Ok (Some p)) bytes size fits is = said_found bytes p size fits (sym is)
found_of (Err offset) bytes size fits is = tt

none_said : (zeros : Bool) (read : Result Position ℕ) → (cond zeros (Ok None) (read >>= λ q. Ok (Some q)) ≡ Ok None) ↔ (zeros ≡ true)
none_said true read = (λ e. refl, λ e. refl)
none_said false (Ok q) = (λ e. absurd cc, λ e. absurd cc)
none_said false (Err f) = (λ e. absurd cc, λ e. absurd cc)

pub nothing_said : (bytes : List ℕ) → (cell bytes ≡ Ok None) ↔ IsTrue (starts_with nat_eq bytes (0 ∷ 0 ∷ 0 ∷ 0 ∷ []))
unfolding cell
nothing_said bytes = none_said (starts_with nat_eq bytes (0 ∷ 0 ∷ 0 ∷ 0 ∷ [])) (cell_at (record { at = 0; bytes = bytes }))
