use Rattle.std.proofs.Common.{◌≡◌, ◌==◌, false, [], refl, sym, ◌∙◌, codes, arith}
use Rattle.std.proofs.lemmas.Bool.Decides.{nat_tests}
use Rattle.std.proofs.lemmas.Result.{err_from_is_err_and}
use Rattle.machine_defs.specs.Script.{lines_of}
use Rattle.machine_defs.specs.ListingForm.{marks_read, all_read, mark_taken}
use Rattle.list_text.specs.Views.{cursor_view}
use Rattle.list_text.proofs.Sections.{section-on, section-end}
use Rattle.list_text.proofs.told.read_marks.Goals as goal

pub returns-in_err-left : goal.returns-in_err-left
returns-in_err-left c =
    let p = err_from_is_err_and c.from_residual.result c.from_residual.ensures.1 in
    let later : c.args.version == 1 ≡ false = (let other = c.if-version-eq1.false in grind (arith, nat_tests)) in
    let read : marks_read c.args.version (cursor_view c.args.cursor) ≡ all_read (codes "mark ") mark_taken [] c.args.cursor.line (lines_of c.args.cursor.rest.now) = rw later refl in
    rw (p.1, p.2, read)
    (section-end mark_taken (codes "mark ") refl c.in_err-left.field-0.0 c.loop-marks.marks c.loop-marks.left.line c.loop-marks.left.rest.now _
    (sym c.starts_with.ensures.value ∙ c.loop-marks-test.true) c.in_err-left.ensures.taken c.loop-marks.invariant)

pub loop-marks-preserved : goal.loop-marks-preserved
loop-marks-preserved c =
    section-on mark_taken (codes "mark ") refl c.loop-marks.marks c.push_mark.new.marks c.loop-marks.left.line c.loop-marks.left.rest.now (cursor_view c.in_ok-left.left) _
    (sym c.starts_with.ensures.value ∙ c.loop-marks-test.true) c.in_ok-left.ensures.taken c.loop-marks.invariant
