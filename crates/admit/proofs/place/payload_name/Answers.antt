use Rattle.std.proofs.Common.{◌≡◌, ◌∙◌, ℕ, List, Some, length, drop, sym, ap, arith}
use Rattle.admit.specs.Places.{payload_at, place_of, spelled}
use Rattle.admit.specs.declared.place.TreePlace.TheVariants.{Payload}
use Rattle.admit.proofs.Placed.{payload_path}
use Rattle.admit.proofs.place.payload_name.Goals as goal

pub split_at-requires : goal.split_at-requires
split_at-requires c =
    let path = c.args.path.now in
    let k = c.in-Payload.k in
    let name = c.in-Payload.field-1 in
    let e : payload_at (place_of path) ≡ Some (k, name) = ap payload_at (sym c.in-Payload.ensures) in
    let long : length c.bytes.result.now ≡ length (spelled (Payload k name)) = ap (λ (l : List ℕ). length l) (c.bytes.ensures.bytes ∙ (payload_path path k name e).is) in
    omega (arith, long)

pub returns-in-Payload : goal.returns-in-Payload
returns-in-Payload c =
    let path = c.args.path.now in
    let k = c.in-Payload.k in
    let name = c.in-Payload.field-1 in
    let e : payload_at (place_of path) ≡ Some (k, name) = ap payload_at (sym c.in-Payload.ensures) in
    let behind : name ≡ c.split_at.result.1.now = sym (c.split_at.ensures.back ∙ ap (λ (l : List ℕ). drop 10 l) (c.bytes.ensures.bytes ∙ (payload_path path k name e).is)) in
    e ∙ ap (λ (n : List ℕ). Some (k, n)) behind
