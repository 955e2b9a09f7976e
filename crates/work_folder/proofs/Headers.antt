-- The folders of payloads, one after the other.
use Rattle.std.proofs.Common.{◌≡◌, ◌∙◌, ℕ, ◌+◌, ◌-◌, ◌<◌, zero, suc, List, [], ◌∷◌, ◌++◌, length, get_or, take, refl, sym, ap, arith, append_assoc, append-nil}
use Rattle.std.proofs.lemmas.List.{take_more, length-take-le}
use Rattle.provides_map.specs.Pairs.{Pairs}
use Rattle.script_names.specs.declared.site.Site.{Site}
use Rattle.admit.specs.declared.admitted.Admitted.{Admitted}
use Rattle.admit.specs.Differing.{Listed}
use Rattle.work_folder.specs.Rows.{Row, payload_rows, payloads_rows, header_lines, headers_lines}

rows_append : (site : Site) (held : Pairs) (plan : Admitted) (k : ℕ) (xs ys : List (List ℕ)) → payloads_rows site held plan k (xs ++ ys) ≡ payloads_rows site held plan k xs ++ payloads_rows site held plan (k + length xs) ys
rows_append site held plan k [] ys = ap (λ (n : ℕ). payloads_rows site held plan n ys) (omega arith)
rows_append site held plan k (x ∷ xs) ys =
    let one = payload_rows site held plan k x in
    let more = payloads_rows site held plan (k + 1) xs in
    ap (λ (rows : List Row). one ++ rows) (rows_append site held plan (k + 1) xs ys ∙ ap (λ (n : ℕ). more ++ payloads_rows site held plan n ys) (omega arith))
    ∙ sym (append_assoc one more (payloads_rows site held plan (k + length (x ∷ xs)) ys))

-- the rows of one payload more
pub rows_more : (site : Site) (held : Pairs) (plan : Admitted) (kinds : List (List ℕ)) (k : ℕ) (kind : List ℕ) → k < length kinds → kind ≡ get_or kinds k kind → payloads_rows site held plan 0 (take (k + 1) kinds) ≡ payloads_rows site held plan 0 (take k kinds) ++ payload_rows site held plan k kind
rows_more site held plan kinds k kind lt is =
    let before = payloads_rows site held plan 0 (take k kinds) in
    let long : length (take k kinds) ≡ k = length-take-le k kinds (omega arith) in
    ap (λ (xs : List (List ℕ)). payloads_rows site held plan 0 xs) (take_more kinds k kind lt)
    ∙ rows_append site held plan 0 (take k kinds) (get_or kinds k kind ∷ [])
    ∙ ap (λ (rows : List Row). before ++ rows) (append-nil (payload_rows site held plan (0 + length (take k kinds)) (get_or kinds k kind)))
    ∙ ap (λ (n : ℕ). before ++ payload_rows site held plan n (get_or kinds k kind)) (omega (arith, long))
    ∙ ap (λ (x : List ℕ). before ++ payload_rows site held plan k x) (sym is)

-- the lines of some payloads, and those of the payloads behind them
pub lines_split : (k m n : ℕ) (listed : List Listed) → headers_lines k (m + n) listed ≡ headers_lines k m listed ++ headers_lines (k + m) n listed
lines_split k zero n listed = ap (λ (j : ℕ). headers_lines k j listed) (omega arith) ∙ ap (λ (j : ℕ). headers_lines j n listed) (omega arith)
lines_split k (suc m) n listed =
    let one = header_lines k listed in
    let more = headers_lines (k + 1) m listed in
    let count : suc m + n ≡ suc (m + n) = omega arith in
    ap (λ (j : ℕ). headers_lines k j listed) count
    ∙ ap (λ (lines : List Listed). one ++ lines) (lines_split (k + 1) m n listed ∙ ap (λ (j : ℕ). more ++ headers_lines j n listed) (omega arith))
    ∙ sym (append_assoc one more (headers_lines (k + suc m) n listed))

-- the lines of one payload more
pub lines_more : (k : ℕ) (listed : List Listed) → headers_lines 0 (k + 1) listed ≡ headers_lines 0 k listed ++ header_lines k listed
lines_more k listed =
    let before = headers_lines 0 k listed in
    lines_split 0 k 1 listed
    ∙ ap (λ (j : ℕ). before ++ headers_lines j 1 listed) (omega arith)
    ∙ ap (λ (lines : List Listed). before ++ lines) (append-nil (header_lines k listed))

-- all lines, around those of payload k
pub lines_around : (k n : ℕ) (listed : List Listed) → k < n → headers_lines 0 n listed ≡ headers_lines 0 k listed ++ (header_lines k listed ++ headers_lines (k + 1) (n - (k + 1)) listed)
lines_around k n listed lt =
    let before = headers_lines 0 k listed in
    let rest = headers_lines (k + 1) (n - (k + 1)) listed in
    let count : n ≡ (k + 1) + (n - (k + 1)) = omega arith in
    ap (λ (j : ℕ). headers_lines 0 j listed) count
    ∙ lines_split 0 (k + 1) (n - (k + 1)) listed
    ∙ ap (λ (j : ℕ). headers_lines 0 (k + 1) listed ++ headers_lines j (n - (k + 1)) listed) (omega arith)
    ∙ ap (λ (lines : List Listed). lines ++ rest) (lines_more k listed)
    ∙ append_assoc before (header_lines k listed) rest
