use Rattle.std.proofs.Common.{ap, sym, ◌∙◌, Some, bytes_eq}
use Rattle.map_io.proofs.HeldFiles.{held-passed, held-found}
use Rattle.map_io.proofs.sure.find.Goals as goal

pub loop-file-preserved : goal.loop-file-preserved
loop-file-preserved c =
    let name = ap (λ text. bytes_eq text c.args.name.now) (sym c.as_str.ensures.value) in
    held-passed c.args.files.now c.loop-file.file-index c.file-item.result c.args.name.now c.loop-file-test.true c.file-item.is
    (name ∙ sym c.eq.ensures ∙ c.if-eq.false) ∙ c.loop-file.invariant

pub returns-then-eq : goal.returns-then-eq
returns-then-eq c =
    let name = ap (λ text. bytes_eq text c.args.name.now) (sym c.as_str.ensures.value) in
    ap Some c.as_slice.ensures.value
    ∙ held-found c.args.files.now c.loop-file.file-index c.file-item.result c.args.name.now c.loop-file-test.true c.file-item.is
    (name ∙ sym c.eq.ensures ∙ c.if-eq.true) ∙ c.loop-file.invariant
