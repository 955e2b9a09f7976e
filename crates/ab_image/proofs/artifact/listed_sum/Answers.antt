use Rattle.std.proofs.Common.{◌≡◌, ◌≤◌, length}
use Rattle.std.proofs.lemmas.Result.{err_from_is_err_and}
use Rattle.io_model.specs.Source.{When, bytes_at}
use Rattle.ab_image.proofs.Listings.{unread-listed, read-listed, fault-listed}
use Rattle.ab_image.proofs.artifact.listed_sum.Goals as goal

pub returns-in_err-text-clause-none : goal.returns-in_err-text-clause-none
returns-in_err-text-clause-none g c =
    let p = err_from_is_err_and c.from_residual.result c.from_residual.ensures.1 in
    rw (p.1, p.2) (unread-listed (g.S.Source.content c.args.source.now) c.in-Some.i c.args.type_info _ c.in-Some.is c.in_err-text.ensures.none)

pub returns-in-Ok-clause-listed : goal.returns-in-Ok-clause-listed
returns-in-Ok-clause-listed g c =
    let text = c.as_slice.result.now in
    let content = g.S.Source.content c.args.source.now in
    let short : length text ≤ 65536 = rw c.as_slice.ensures.value c.in_ok-text.ensures.few in
    let same : When content (λ tree. text ≡ bytes_at tree c.in-Some.i) = rw c.as_slice.ensures.value c.in_ok-text.ensures.text in
    (read-listed content c.in-Some.i c.args.type_info text c.in-Some.is short same c.in-Ok.info c.sum_listed.result c.in-Ok.ensures c.sum_listed.ensures).0

pub returns-in-Ok-clause-none : goal.returns-in-Ok-clause-none
returns-in-Ok-clause-none g c =
    let text = c.as_slice.result.now in
    let content = g.S.Source.content c.args.source.now in
    let short : length text ≤ 65536 = rw c.as_slice.ensures.value c.in_ok-text.ensures.few in
    let same : When content (λ tree. text ≡ bytes_at tree c.in-Some.i) = rw c.as_slice.ensures.value c.in_ok-text.ensures.text in
    (read-listed content c.in-Some.i c.args.type_info text c.in-Some.is short same c.in-Ok.info c.sum_listed.result c.in-Ok.ensures c.sum_listed.ensures).1

pub returns-clause-none : goal.returns-clause-none
returns-clause-none g c =
    let text = c.as_slice.result.now in
    let content = g.S.Source.content c.args.source.now in
    let short : length text ≤ 65536 = rw c.as_slice.ensures.value c.in_ok-text.ensures.few in
    let same : When content (λ tree. text ≡ bytes_at tree c.in-Some.i) = rw c.as_slice.ensures.value c.in_ok-text.ensures.text in
    rw c.unread.ensures (fault-listed content c.in-Some.i c.args.type_info text c.in-Some.is short same c.in-Err.fault c.in-Err.ensures)
