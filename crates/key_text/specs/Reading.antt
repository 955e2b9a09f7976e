-- What the readers answer, as functions of the octets.
use Rattle.std.specs.Prelude.{ℕ, ◌+◌, ◌*◌, ◌==◌, nat_lt, ◌&&◌, if◌then◌else◌, List, [], ◌∷◌, length, slice_index, take, drop, Option, Some, None, not, position, codes}
use Rattle.std.specs.List.{position_or_len}
use Rattle.std.specs.Option.{option_and_then}
use Rattle.std.specs.Str.{bytes_eq}
use Rattle.key_text.specs.Der.{rsa_encryption}
use Rattle.key_text.specs.Pem.{is_dash, is_line_end}

-- what stands behind the prefix
unfoldable pub stripped : List ℕ → List ℕ → Option (List ℕ)
stripped prefix octets = if bytes_eq (take (length prefix) octets) prefix then Some (drop (length prefix) octets) else None

-- the rest of a length form that begins with this octet
abbrev pub length_from : ℕ → List ℕ → Option (ℕ × List ℕ)
length_from b rest =
    if nat_lt b 128 then Some (b, rest)
    else (if b == 129 then (if nat_lt 0 (length rest) && nat_lt 127 (slice_index rest 0) then Some (slice_index rest 0, drop 1 rest) else None)
    else (if b == 130 then (if nat_lt 1 (length rest) && nat_lt 0 (slice_index rest 0) then Some (slice_index rest 0 * 256 + slice_index rest 1, drop 2 rest) else None) else None))

unfoldable pub length_at : List ℕ → Option (ℕ × List ℕ)
length_at octets = if nat_lt 0 (length octets) then length_from (slice_index octets 0) (drop 1 octets) else None

-- the content of the first part, and what follows it
unfoldable pub part_at : ℕ → List ℕ → Option (List ℕ × List ℕ)
part_at tag octets = option_and_then (λ rest. option_and_then (λ l. if nat_lt (length l.1) l.0 then None else Some (take l.0 l.1, drop l.0 l.1)) (length_at rest)) (stripped (tag ∷ []) octets)

-- the content of the one part
unfoldable pub whole_part : ℕ → List ℕ → Option (List ℕ)
whole_part tag octets = option_and_then (λ p. if length p.1 == 0 then Some p.0 else None) (part_at tag octets)

-- the number of an INTEGER's content
unfoldable pub natural_of : List ℕ → Option (List ℕ)
natural_of content =
    if nat_lt 127 (slice_index content 0) then None
    else (if nat_lt 0 (slice_index content 0) then Some content
    else (if nat_lt 127 (slice_index (drop 1 content) 0) then Some (drop 1 content) else None))

unfoldable pub integer_at : List ℕ → Option (List ℕ × List ℕ)
integer_at octets = option_and_then (λ p. option_and_then (λ n. Some (n, p.1)) (natural_of p.0)) (part_at 2 octets)

-- both numbers of a key
unfoldable pub numbers_of : List ℕ → Option (List ℕ × List ℕ)
numbers_of octets = option_and_then (λ n. option_and_then (λ e. if length e.1 == 0 then Some (n.0, e.0) else None) (integer_at n.1)) (integer_at octets)

unfoldable pub key_of : List ℕ → Option (List ℕ × List ℕ)
key_of octets = if nat_lt 65535 (length octets) then None
    else option_and_then (λ info. option_and_then (λ bits. option_and_then (λ held. option_and_then (λ key. option_and_then (λ numbers. numbers_of numbers)
    (whole_part 48 key)) (stripped (0 ∷ []) held)) (whole_part 3 bits)) (stripped rsa_encryption info)) (whole_part 48 octets)

-- what stands behind the line ends at the front
unfoldable pub behind_line_ends : List ℕ → List ℕ
behind_line_ends text = drop (position_or_len (λ b. not (is_line_end b)) text) text

-- the body between the lines, and the rest
unfoldable pub frame_at : List ℕ → Option (List ℕ × List ℕ)
frame_at text =
    option_and_then (λ inside. option_and_then (λ at. option_and_then (λ after. Some (take at inside, behind_line_ends after))
    (stripped (codes "-----END PUBLIC KEY-----") (drop at inside))) (position is_dash inside)) (stripped (codes "-----BEGIN PUBLIC KEY-----") text)
