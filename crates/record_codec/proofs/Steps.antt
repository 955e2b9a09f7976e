-- Where the reading of a cell fails: never behind its last byte.
use Rattle.std.proofs.Common.{◌≡◌, ℕ, zero, suc, ◌+◌, ◌<◌, ◌≤◌, Bool, true, false, cond, ltb, List, [], ◌∷◌, length, take, drop, Option, Some, None, Result, Ok, Err, refl, arith}
use Rattle.std.specs.Prelude.{slice_get, codes, nat_eq, IfErr}
use Rattle.std.specs.Int.{w8, from_be_bytes}
use Rattle.std.specs.List.{starts_with}
use Rattle.flow_table.specs.declared.position.Position.{Position}
use Rattle.flow_table.specs.Valid.{is_outcome, is_undoable, is_reboot, is_count}
use Rattle.record_codec.specs.Bytes.{states, outcomes, answers, reboots}
use Rattle.upd_text.specs.Results.{◌>>=◌}
use Rattle.record_codec.specs.Reading.{Rest, any, chosen, bytes_at, number_at, choice_at, literal_at, position_at}
use Rattle.record_codec.specs.Cells.{filling, zeros_at, cell_at, cell}

-- what was read has so many bytes, and what is wrong stands before their end
abbrev Steps : {B : Type 0} → ℕ → ℕ → (B → ℕ) → Result B ℕ → Type 0
Steps start size stop (Ok x) = stop x ≡ start + size
Steps start size stop (Err offset) = offset < start + size

abbrev end_of : {A : Type 0} → A × Rest → ℕ
end_of x = let rest : Rest = x.1 in rest.at

abbrev place : Rest → ℕ
place r = r.at

-- one reader behind m bytes, and the rest
step : {A B : Type 0} (start size m k : ℕ) (r : Rest) (stop : A → ℕ) (last : B → ℕ) (read : Result A ℕ) (f : A → Result B ℕ) → r.at ≡ start + m → m + k ≤ size
    → Steps r.at k stop read → ((x : A) → stop x ≡ start + (m + k) → Steps start size last (f x)) → Steps start size last (read >>= f)
step start size m k r stop last (Ok x) f at le h rest = rest x (omega arith)
step start size m k r stop last (Err offset) f at le h rest = omega arith

either : {B : Type 0} (start size : ℕ) (stop : B → ℕ) (b : Bool) (x : B) (offset : ℕ) → stop x ≡ start + size → offset < start + size → Steps start size stop (cond b (Ok x) (Err offset))
either start size stop true x offset h k = h
either start size stop false x offset h k = k

byte_steps : (r : Rest) → Steps r.at 1 end_of (bytes_at 1 r)
unfolding bytes_at
byte_steps r = turned (ltb (length r.bytes) 1)
  where
    turned : (b : Bool) → Steps {B = List ℕ × Rest} r.at 1 end_of (cond b (Err r.at) (Ok (take 1 r.bytes, record { at = r.at + 1; bytes = drop 1 r.bytes })))
    turned true = omega arith
    turned false = refl

number_steps : (right : ℕ → Bool) (r : Rest) → Steps r.at 1 end_of (number_at w8 right r)
unfolding number_at
number_steps right r = step r.at 1 0 1 r end_of end_of (bytes_at 1 r) _ (omega arith) (omega arith) (byte_steps r)
    (λ digits at. either r.at 1 end_of (right (from_be_bytes w8 digits.0)) (from_be_bytes w8 digits.0, digits.1) r.at (omega arith) (omega arith))

chosen_steps : {A : Type 0} (right : A → Bool) (start : ℕ) (rest : Rest) (o : Option A) → rest.at ≡ start + 1 → Steps start 1 end_of (chosen right start rest o)
chosen_steps right start rest None at = omega arith
chosen_steps right start rest (Some x) at = either start 1 end_of (right x) (x, rest) start at (omega arith)

choice_steps : {A : Type 0} (all : List A) (right : A → Bool) (r : Rest) → Steps r.at 1 end_of (choice_at all right r)
unfolding choice_at
choice_steps all right r = step r.at 1 0 1 r end_of end_of (number_at w8 any r) _ (omega arith) (omega arith) (number_steps any r)
    (λ byte at. chosen_steps right r.at byte.1 (slice_get all byte.0) (omega arith))

literal_steps : (text : List ℕ) (r : Rest) → 0 < length text → Steps r.at (length text) place (literal_at text r)
unfolding literal_at
literal_steps text r some = either r.at (length text) place (starts_with nat_eq r.bytes text) (record { at = r.at + length text; bytes = drop (length text) r.bytes }) r.at refl (omega arith)

position_steps : (r : Rest) → Steps r.at 5 end_of (position_at r)
unfolding position_at
position_steps r =
    step r.at 5 0 1 r end_of end_of (choice_at states any r) _ (omega arith) (omega arith) (choice_steps states any r) (λ state at1.
    step r.at 5 1 1 state.1 end_of end_of (choice_at outcomes (is_outcome state.0) state.1) _ at1 (omega arith) (choice_steps outcomes (is_outcome state.0) state.1) (λ outcome at2.
    step r.at 5 2 1 outcome.1 end_of end_of (choice_at answers (is_undoable state.0) outcome.1) _ at2 (omega arith) (choice_steps answers (is_undoable state.0) outcome.1) (λ undoable at3.
    step r.at 5 3 1 undoable.1 end_of end_of (choice_at reboots (is_reboot state.0) undoable.1) _ at3 (omega arith) (choice_steps reboots (is_reboot state.0) undoable.1) (λ reboot at4.
    step r.at 5 4 1 reboot.1 end_of end_of (number_at w8 (is_count state.0) reboot.1) _ at4 (omega arith) (number_steps (is_count state.0) reboot.1) (λ n at5. at5)))))

zeros_steps : (n : ℕ) (r : Rest) → Steps r.at n place (zeros_at n r)
unfolding zeros_at
zeros_steps zero r = omega arith
zeros_steps (suc n) r =
    step r.at (suc n) 0 1 r place place (literal_at (0 ∷ []) r) (zeros_at n) (omega arith) (omega arith) (literal_steps (0 ∷ []) r (omega arith))
    (λ s at. moved (zeros_at n s) s at (zeros_steps n s))
  where
    moved : (read : Result Rest ℕ) (s : Rest) → s.at ≡ r.at + 1 → Steps s.at n place read → Steps r.at (suc n) place read
    moved (Ok x) s at h = omega arith
    moved (Err offset) s at h = omega arith

cell_steps : (bytes : List ℕ) → Steps 0 64 (λ (p : Position). 64) (cell_at (record { at = 0; bytes = bytes }))
unfolding cell_at filling
cell_steps bytes =
    let r : Rest = record { at = 0; bytes = bytes } in
    step 0 64 0 4 r place (λ (p : Position). 64) (literal_at (codes "MUC1") r) _ refl (omega arith) (literal_steps (codes "MUC1") r (omega arith)) (λ magic at1.
    step 0 64 4 5 magic end_of (λ (p : Position). 64) (position_at magic) _ at1 (omega arith) (position_steps magic) (λ position at2.
    step 0 64 9 55 position.1 place (λ (p : Position). 64) (zeros_at 55 position.1) _ at2 (omega arith) (zeros_steps 55 position.1) (λ rest at3. refl)))

by_zeros : (zeros : Bool) (read : Result Position ℕ) → Steps 0 64 (λ (p : Position). 64) read → IfErr (cond zeros (Ok None) (read >>= λ q. Ok (Some q))) (λ offset. offset < 64)
by_zeros true read h = tt
by_zeros false (Ok q) h = tt
by_zeros false (Err offset) h = h

-- a wrong byte is one of the cell's
pub fault_within : (bytes : List ℕ) → IfErr (cell bytes) (λ offset. offset < 64)
unfolding cell
fault_within bytes = by_zeros (starts_with nat_eq bytes (0 ∷ 0 ∷ 0 ∷ 0 ∷ [])) (cell_at (record { at = 0; bytes = bytes })) (cell_steps bytes)
