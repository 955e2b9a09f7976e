use Rattle.std.proofs.Common.{◌∙◌, sym, ap, length}
use Rattle.std.specs.Prelude.{map}
use Rattle.admit.specs.Kept.{numbered_text}
use Rattle.admit.proofs.IsOfLemmas.{is_of}
use Rattle.admit.proofs.LinesLemmas.{numbered}
use Rattle.admit.proofs.Spared.{spares_manifest, spares_texts, spares_rest}
use Rattle.admit.proofs.chain.admit_head.Goals as goal

pub check_rest-requires-clause-count : goal.check_rest-requires-clause-count
check_rest-requires-clause-count g c = ap length c.as_slice-numbers.ensures.items ∙ numbered c.as_slice-heads.result.now c.as_slice-text.result.now c.in_ok-listing.listing c.in_ok-listing.ensures.value ∙ sym (ap length c.lines-lines.ensures)

pub returns-in_err-bytes-clause-payloads : goal.returns-in_err-bytes-clause-payloads
returns-in_err-bytes-clause-payloads g c =
    let content = g.S.Source.content c.args.source.now in
    let given = g.S.Source.given in
    let heads = c.as_slice-heads.result.now in
    let table = sym c.in_ok-places.ensures.value in
    spares_manifest content heads c.in_ok-places.places (given c.args.source.now) (given c.read_table.new.source) (given c.read_file.new.source) (rw c.as_slice-heads.ensures.items c.in_ok-heads.ensures.heads) table c.in_ok-heads.ensures.given c.in_err-bytes.ensures.given

pub returns-in_err-listing-clause-payloads : goal.returns-in_err-listing-clause-payloads
returns-in_err-listing-clause-payloads g c =
    let content = g.S.Source.content c.args.source.now in
    let given = g.S.Source.given in
    let heads = c.as_slice-heads.result.now in
    let table = sym c.in_ok-places.ensures.value in
    spares_manifest content heads c.in_ok-places.places (given c.args.source.now) (given c.read_table.new.source) (given c.read_file.new.source) (rw c.as_slice-heads.ensures.items c.in_ok-heads.ensures.heads) table c.in_ok-heads.ensures.given c.in_ok-bytes.ensures.given

pub returns-in_err-kept-clause-payloads : goal.returns-in_err-kept-clause-payloads
returns-in_err-kept-clause-payloads g c =
    let content = g.S.Source.content c.args.source.now in
    let given = g.S.Source.given in
    let heads = c.as_slice-heads.result.now in
    let table = sym c.in_ok-places.ensures.value in
    spares_texts content heads c.in_ok-places.places (given c.args.source.now) (given c.read_file.new.source) (given c.read_texts.new.source) (rw c.as_slice-heads.ensures.items c.in_ok-heads.ensures.heads) table (spares_manifest content heads c.in_ok-places.places (given c.args.source.now) (given c.read_table.new.source) (given c.read_file.new.source) (rw c.as_slice-heads.ensures.items c.in_ok-heads.ensures.heads) table c.in_ok-heads.ensures.given c.in_ok-bytes.ensures.given) c.in_err-kept.ensures.given

pub returns-in_err-check_rest-clause-payloads : goal.returns-in_err-check_rest-clause-payloads
returns-in_err-check_rest-clause-payloads g c =
    let content = g.S.Source.content c.args.source.now in
    let given = g.S.Source.given in
    let heads = c.as_slice-heads.result.now in
    let table = sym c.in_ok-places.ensures.value in
    spares_rest content heads c.as_slice-text.result.now c.in_ok-listing.listing c.lines-lines.result.now c.as_slice-numbers.result.now (given c.args.source.now) (given c.read_texts.new.source) (given c.check_rest.new.source) (rw c.as_slice-heads.ensures.items c.in_ok-heads.ensures.heads) c.in_ok-listing.ensures.value c.lines-lines.ensures c.as_slice-numbers.ensures.items (spares_texts content heads c.in_ok-places.places (given c.args.source.now) (given c.read_file.new.source) (given c.read_texts.new.source) (rw c.as_slice-heads.ensures.items c.in_ok-heads.ensures.heads) table (spares_manifest content heads c.in_ok-places.places (given c.args.source.now) (given c.read_table.new.source) (given c.read_file.new.source) (rw c.as_slice-heads.ensures.items c.in_ok-heads.ensures.heads) table c.in_ok-heads.ensures.given c.in_ok-bytes.ensures.given) c.in_ok-kept.ensures.given) c.in_err-check_rest.ensures.given

pub returns-in_err-fields-clause-payloads : goal.returns-in_err-fields-clause-payloads
returns-in_err-fields-clause-payloads g c =
    let content = g.S.Source.content c.args.source.now in
    let given = g.S.Source.given in
    let heads = c.as_slice-heads.result.now in
    let table = sym c.in_ok-places.ensures.value in
    spares_rest content heads c.as_slice-text.result.now c.in_ok-listing.listing c.lines-lines.result.now c.as_slice-numbers.result.now (given c.args.source.now) (given c.read_texts.new.source) (given c.check_rest.new.source) (rw c.as_slice-heads.ensures.items c.in_ok-heads.ensures.heads) c.in_ok-listing.ensures.value c.lines-lines.ensures c.as_slice-numbers.ensures.items (spares_texts content heads c.in_ok-places.places (given c.args.source.now) (given c.read_file.new.source) (given c.read_texts.new.source) (rw c.as_slice-heads.ensures.items c.in_ok-heads.ensures.heads) table (spares_manifest content heads c.in_ok-places.places (given c.args.source.now) (given c.read_table.new.source) (given c.read_file.new.source) (rw c.as_slice-heads.ensures.items c.in_ok-heads.ensures.heads) table c.in_ok-heads.ensures.given c.in_ok-bytes.ensures.given) c.in_ok-kept.ensures.given) c.in_ok-check_rest.ensures.given

pub returns-in_err-scripts-clause-payloads : goal.returns-in_err-scripts-clause-payloads
returns-in_err-scripts-clause-payloads g c =
    let content = g.S.Source.content c.args.source.now in
    let given = g.S.Source.given in
    let heads = c.as_slice-heads.result.now in
    let table = sym c.in_ok-places.ensures.value in
    spares_rest content heads c.as_slice-text.result.now c.in_ok-listing.listing c.lines-lines.result.now c.as_slice-numbers.result.now (given c.args.source.now) (given c.read_texts.new.source) (given c.check_rest.new.source) (rw c.as_slice-heads.ensures.items c.in_ok-heads.ensures.heads) c.in_ok-listing.ensures.value c.lines-lines.ensures c.as_slice-numbers.ensures.items (spares_texts content heads c.in_ok-places.places (given c.args.source.now) (given c.read_file.new.source) (given c.read_texts.new.source) (rw c.as_slice-heads.ensures.items c.in_ok-heads.ensures.heads) table (spares_manifest content heads c.in_ok-places.places (given c.args.source.now) (given c.read_table.new.source) (given c.read_file.new.source) (rw c.as_slice-heads.ensures.items c.in_ok-heads.ensures.heads) table c.in_ok-heads.ensures.given c.in_ok-bytes.ensures.given) c.in_ok-kept.ensures.given) c.in_ok-check_rest.ensures.given

pub returns-in_err-check_wants-clause-payloads : goal.returns-in_err-check_wants-clause-payloads
returns-in_err-check_wants-clause-payloads g c =
    let content = g.S.Source.content c.args.source.now in
    let given = g.S.Source.given in
    let heads = c.as_slice-heads.result.now in
    let table = sym c.in_ok-places.ensures.value in
    spares_rest content heads c.as_slice-text.result.now c.in_ok-listing.listing c.lines-lines.result.now c.as_slice-numbers.result.now (given c.args.source.now) (given c.read_texts.new.source) (given c.check_rest.new.source) (rw c.as_slice-heads.ensures.items c.in_ok-heads.ensures.heads) c.in_ok-listing.ensures.value c.lines-lines.ensures c.as_slice-numbers.ensures.items (spares_texts content heads c.in_ok-places.places (given c.args.source.now) (given c.read_file.new.source) (given c.read_texts.new.source) (rw c.as_slice-heads.ensures.items c.in_ok-heads.ensures.heads) table (spares_manifest content heads c.in_ok-places.places (given c.args.source.now) (given c.read_table.new.source) (given c.read_file.new.source) (rw c.as_slice-heads.ensures.items c.in_ok-heads.ensures.heads) table c.in_ok-heads.ensures.given c.in_ok-bytes.ensures.given) c.in_ok-kept.ensures.given) c.in_ok-check_rest.ensures.given

pub returns-clause-payloads : goal.returns-clause-payloads
returns-clause-payloads g c =
    let content = g.S.Source.content c.args.source.now in
    let given = g.S.Source.given in
    let heads = c.as_slice-heads.result.now in
    let table = sym c.in_ok-places.ensures.value in
    spares_rest content heads c.as_slice-text.result.now c.in_ok-listing.listing c.lines-lines.result.now c.as_slice-numbers.result.now (given c.args.source.now) (given c.read_texts.new.source) (given c.check_rest.new.source) (rw c.as_slice-heads.ensures.items c.in_ok-heads.ensures.heads) c.in_ok-listing.ensures.value c.lines-lines.ensures c.as_slice-numbers.ensures.items (spares_texts content heads c.in_ok-places.places (given c.args.source.now) (given c.read_file.new.source) (given c.read_texts.new.source) (rw c.as_slice-heads.ensures.items c.in_ok-heads.ensures.heads) table (spares_manifest content heads c.in_ok-places.places (given c.args.source.now) (given c.read_table.new.source) (given c.read_file.new.source) (rw c.as_slice-heads.ensures.items c.in_ok-heads.ensures.heads) table c.in_ok-heads.ensures.given c.in_ok-bytes.ensures.given) c.in_ok-kept.ensures.given) c.in_ok-check_rest.ensures.given

pub returns-clause-of_source : goal.returns-clause-of_source
returns-clause-of_source g c =
    is_of (g.S.Source.content c.args.source.now) c.as_slice-heads.result.now c.in_ok-places.places c.as_slice-text.result.now c.in_ok-listing.listing c.in_ok-kept.kept.version.items c.in_ok-kept.kept.header_info.items (map numbered_text c.in_ok-kept.kept.type_infos) c.in_ok-fields.fields c.in_ok-scripts.scripts
    (rw c.as_slice-heads.ensures.items c.in_ok-heads.ensures.count)
    (rw c.as_slice-heads.ensures.items c.in_ok-heads.ensures.heads)
    c.in_ok-listing.ensures.bound
    (sym c.in_ok-places.ensures.value)
    c.in_ok-listing.ensures.value
    c.in_ok-fields.ensures.value
    c.in_ok-fields.ensures.kinds
    c.in_ok-fields.ensures.count
    c.in_ok-scripts.ensures.value
