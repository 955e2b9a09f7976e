-- How many states may still be entered.
use Rattle.std.proofs.Common.{◌≡◌, ℕ, suc, ◌-◌, ◌<◌, ◌≤◌, Bool, IsTrue, refl, subst, sym, arith}
use Rattle.flow_table.specs.declared.position.Position.{Position}
use Rattle.flow_table.specs.declared.position.State.{State}
use Rattle.flow_table.specs.declared.position.State.TheVariants.{Idle}
use Rattle.flow_table.specs.declared.table.Heard.{Heard}
use Rattle.flow_table.specs.declared.table.Step.TheVariants.{Enter}
use Rattle.flow_table.specs.Table.{next_of}
use Rattle.flow_table.specs.Valid.{is_valid}
use Rattle.flow_table.specs.Laws.{Counted, entered, ended}
use Rattle.flow_table.proofs.Counts.{next_counted}
use Rattle.flow_table.proofs.Positions.{valid-few}

abbrev left_in : State → ℕ → ℕ
left_in Idle n = 0
left_in _ n = suc (28 - n)

-- with this one
abbrev pub remaining : Position → ℕ
remaining p = left_in p.state p.n

left-le : (s : State) (n : ℕ) → left_in s n ≤ suc (28 - n)
left-le Idle n = omega arith
left-le _ n = omega arith

left-is : (s : State) (n : ℕ) → (s ≡ Idle → ⊥) → left_in s n ≡ suc (28 - n)
left-is Idle n h = absurd (h refl)
left-is _ n h = refl

-- at any state but Idle there is one at least
pub remaining-some : (p : Position) → (p.state ≡ Idle → ⊥) → 1 ≤ remaining p
remaining-some p h = let l = left-is p.state p.n h in omega (arith, l)

-- from a valid position on there are at most 28
pub remaining-few : (p : Position) → IsTrue (is_valid p) → remaining p ≤ 28
remaining-few p valid = let l = left-le p.state p.n in omega (arith, l, (valid-few p valid).0)

falls : (p q : Position) → (p.state ≡ Idle → ⊥) → Counted p q → remaining q < remaining p
falls p q h (entered s l n) =
    let a = left-le q.state q.n in
    let b = left-is p.state p.n h in
    omega (arith, a, b, l, n)
falls p q h (ended s n) =
    let a : remaining q ≡ 0 = subst (λ (x : State). left_in x q.n ≡ 0) (sym s) refl in
    let b = left-is p.state p.n h in
    omega (arith, a, b)

-- the position that is entered has fewer left than the one before
pub remaining-falls : (p q : Position) (h : Heard) (stop : Bool) → (p.state ≡ Idle → ⊥) → next_of p h stop ≡ Enter q → remaining q < remaining p
remaining-falls p q h stop n e = falls p q n (next_counted p q h stop e)
