-- Names, as they are read.
use Rattle.std.proofs.Common.{◌≡◌, ℕ, Bool, true, false, cond, eqb, ltb, List, length, Option, Some, None, Ok, Err}
use Rattle.std.specs.Prelude.{position}
use Rattle.upd_text.specs.Text.{name_of, unless_bad, is_bad}
use Rattle.upd_text.specs.declared.fault.NameFault.{NameFault}
use Rattle.upd_text.specs.declared.fault.NameFault.TheVariants.{Empty, TooLong}

same_name_at : (a b : Bool) (p : Option ℕ) (x y : NameFault) (bytes name : List ℕ) → cond a (Err x) (cond b (Err y) (unless_bad bytes p)) ≡ Ok name → name ≡ bytes
same_name_at true b p x y bytes name h = absurd cc
same_name_at false true p x y bytes name h = absurd cc
same_name_at false false (Some i) x y bytes name h = absurd cc
same_name_at false false None x y bytes name h = cc

-- a name has the bytes that it was read from
pub same_name : (bytes name : List ℕ) → name_of bytes ≡ Ok name → name ≡ bytes
unfolding name_of
same_name bytes name h = same_name_at (eqb (length bytes) 0) (ltb 128 (length bytes)) (position is_bad bytes) Empty TooLong bytes name h
