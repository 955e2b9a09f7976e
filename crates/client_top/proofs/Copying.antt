-- Scripts that are copied one by one.
use Rattle.std.proofs.Common.{◌≡◌, ℕ, zero, suc, List, [], ◌∷◌, length, take, refl, ap, arith}
use Rattle.std.proofs.lemmas.List.{length-take-le}
use Rattle.std.specs.Prelude.{◌<◌, slice_index_or, IsTrue}
use Rattle.std.specs.List.{AllByRecursion}
use Rattle.std.specs.List.Sorted.{IsStrictlySortedBy}
use Rattle.std.specs.Ordering.{is_lt}
use Rattle.std.specs.declared.cmp.Ordering.TheVariants.{Less}
use Rattle.upd_text.specs.Order.{byte_cmp, is_below, last_from, itself}
use Rattle.upd_text.specs.Text.{IsName}
use Rattle.upd_text.proofs.TextLemmas.{name_parts}
use Rattle.script_names.specs.Scripts.{AreScripts, IsScript, last_script}

below-at : (last : List ℕ) (xs : List (List ℕ)) (n : ℕ) (d : List ℕ) → AllByRecursion (λ s. byte_cmp last s ≡ Less) xs → IsStrictlySortedBy byte_cmp xs → n < length xs → byte_cmp (last_from itself last (take n xs)) (slice_index_or xs n d) ≡ Less
unfolding IsStrictlySortedBy
below-at last [] n d above sorted h = absurd (omega arith)
below-at last (y ∷ ys) zero d above sorted h = above.0
below-at last (y ∷ ys) (suc n) d above sorted h = below-at y ys n d sorted.0 sorted.1 (omega arith)

none-below : (name : List ℕ) → IsName name → byte_cmp [] name ≡ Less
none-below [] is = absurd (let p = name_parts [] is in omega (arith, p.some))
none-below (b ∷ name) is = refl

all-above : (names : List (List ℕ)) → AllByRecursion IsScript names → AllByRecursion (λ s. byte_cmp [] s ≡ Less) names
all-above [] are = tt
all-above (name ∷ names) are = (none-below name are.0.0, all-above names are.1)

-- the next script is above those before it, and there is room for it
pub next-above : (names : List (List ℕ)) (n : ℕ) (d : List ℕ) → AreScripts names → n < length names → IsTrue (is_below (last_script (take n names)) (slice_index_or names n d))
next-above names n d are h = ap is_lt (below-at [] names n d (all-above names are.scripts) are.sorted h)

pub next-fits : (names : List (List ℕ)) (n : ℕ) → AreScripts names → n < length names → length (take n names) < 64
next-fits names n are h = omega (arith, are.few, length-take-le n names (omega arith))
