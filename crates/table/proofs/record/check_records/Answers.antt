-- `record::check_records` meets its contract: `Recording` goes from record to record.
use Rattle.std.proofs.Common.{◌∙◌, refl, ap, arith}
use Rattle.std.proofs.lemmas.Result.{err_from_is_err_and}
use Rattle.table.specs.Marks.{mark_index}
use Rattle.table.proofs.ChainLaws.{slot_is, slot_has}
use Rattle.table.proofs.RecordLaws.{recording_start, recording_end, recording_failed, recording_on, not_marked}
use Rattle.table.proofs.record.check_records.Goals as goal

pub loop-i-init : goal.loop-i-init
loop-i-init c = recording_start _ _ refl

pub tag_number-requires : goal.tag_number-requires
tag_number-requires c = slot_has c.args.image.now _ c.requires.header_ok c.requires.holds c.loop-i.i (omega arith)

pub check_record-requires-clause-has_slot : goal.check_record-requires-clause-has_slot
check_record-requires-clause-has_slot c = slot_has c.args.image.now _ c.requires.header_ok c.requires.holds c.loop-i.i (omega arith)

pub check_record-requires-clause-unmarked : goal.check_record-requires-clause-unmarked
check_record-requires-clause-unmarked c =
    let image = c.args.image.now in
    let hd = c.requires.header_ok in
    let has = slot_has image _ hd c.requires.holds c.loop-i.i (omega arith) in
    let its_slot = slot_is image _ hd c.requires.holds c.loop-i.i (omega arith) in
    not_marked image c.loop-i.marks c.loop-i.i hd (λ i. (c.type_inv.image i).fits) c.loop-i.invariant (omega (arith, c.requires.holds.counted)) _ _
    its_slot (c.mark_index-place.ensures.value ∙ ap mark_index c.tag_number.ensures) has

pub returns-in_err-check_record : goal.returns-in_err-check_record
returns-in_err-check_record c =
    let p = err_from_is_err_and c.from_residual.result c.from_residual.ensures.1 in
    let image = c.args.image.now in
    let hd = c.requires.header_ok in
    let its_slot = slot_is image _ hd c.requires.holds c.loop-i.i (omega arith) in
    p.1 ∙ recording_failed image c.loop-i.marks c.loop-i.i hd (λ i. (c.type_inv.image i).fits) c.loop-i.invariant (omega (arith, c.requires.holds.counted)) _ _
    its_slot (c.mark_index-place.ensures.value ∙ ap mark_index c.tag_number.ensures) _ c.check_record.ensures p.0 (cc p.2)

pub loop-i-preserved : goal.loop-i-preserved
loop-i-preserved c =
    let image = c.args.image.now in
    let hd = c.requires.header_ok in
    let its_slot = slot_is image _ hd c.requires.holds c.loop-i.i (omega arith) in
    recording_on image c.loop-i.marks c.loop-i.i hd (λ i. (c.type_inv.image i).fits) c.loop-i.invariant (omega (arith, c.requires.holds.counted)) _ _
    its_slot (c.mark_index-place.ensures.value ∙ ap mark_index c.tag_number.ensures) _ c.check_record.ensures c.mark_index-place.ensures.upper_bound c.in_ok-check_record.was

pub returns : goal.returns
returns c = recording_end c.args.image.now c.loop-i.marks c.loop-i.i c.loop-i.invariant (omega (arith, c.requires.holds.counted))
