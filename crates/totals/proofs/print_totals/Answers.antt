use Rattle.std.proofs.Common.{arith, subst}
use Rattle.std.proofs.lemmas.Result.{IfOk-at_ok}
use Rattle.std.specs.Io.KnownBytes.{Appends}
use Rattle.totals.proofs.InputLaws.{read_printed, renamed_is, text_front}
use Rattle.totals.proofs.print_totals.Goals as goal

pub returns-clause-sheet : goal.returns-clause-sheet
returns-clause-sheet g c =
    let read = c.read_input-came in
    let is = renamed_is _ _ _ _ c.map_err.ensures.cases c.map_err.ensures.variant c.in_ok-count.was in
    let wrote = IfOk-at_ok _ (renamed_is _ _ _ _ c.map_err-2.ensures.cases c.map_err-2.ensures.variant c.in_ok-map_err.was) c.write_all-wrote.ensures.bytes in
    let text = text_front _ _ c.totals-end.new.out c.totals-end.result c.totals-end.ensures.end c.totals-end.ensures.text in
    read_printed _ _ _ _ read.result c.in_ok-count.count read.new.input is read.ensures.count.0 (omega (arith, read.auto.input)) read.ensures.came read.ensures.all (subst (Appends _ _) text wrote)
