use Rattle.std.proofs.Common.{◌≡◌, ◌∙◌, ◌++◌, ◌≤◌, ℕ, List, Some, length, sym, ap, subst}
use Rattle.std.specs.Prelude.{codes}
use Rattle.upd_text.specs.Text.{IsName}
use Rattle.admit.specs.Places.{payload_at, place_of}
use Rattle.work_folder.proofs.Parts.{name_of_payload, short_payload}
use Rattle.work_folder.proofs.groups.target_of.Goals as goal

pub joined-text-requires : goal.joined-text-requires
joined-text-requires c =
    let path = c.args.path.now in
    let k = c.in-Payload-Payload.k in
    let file = c.in-Payload-Payload.file in
    let e : payload_at (place_of path) ≡ Some (k, file) = ap payload_at (sym c.in-Payload-Payload.ensures) in
    subst (λ (l : List ℕ). length (codes "files/" ++ l) ≤ 128) (sym c.bytes.ensures.bytes) (short_payload path k file c.bytes-name.ensures.name e)

pub name-requires : goal.name-requires
name-requires c =
    let path = c.args.path.now in
    let k = c.in-Payload-Payload.k in
    let file = c.in-Payload-Payload.file in
    let e : payload_at (place_of path) ≡ Some (k, file) = ap payload_at (sym c.in-Payload-Payload.ensures) in
    subst (λ (l : List ℕ). IsName l) (sym (c.as_slice.ensures.value ∙ c.joined-text.ensures ∙ ap (λ (l : List ℕ). codes "files/" ++ l) c.bytes.ensures.bytes)) (name_of_payload path k file c.bytes-name.ensures.name e)
