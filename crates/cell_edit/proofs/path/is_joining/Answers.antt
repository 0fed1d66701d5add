use Rattle.std.proofs.Common.{◌≡◌, ◌≢◌, sym, refl, ◌∙◌}
use Rattle.std.proofs.lemmas.Bool.{false≢true}
use Rattle.std.proofs.lemmas.Result.{IfOk-weaker}
use Rattle.map_defs.specs.Kind.{inverse}
use Rattle.map_defs.specs.Rows.{links_of}
use Rattle.cell_edit.proofs.PathSides.{joining-tells, joining-end}
use Rattle.cell_edit.proofs.path.is_joining.Goals as goal

pub returns-in-Some : goal.returns-in-Some
returns-in-Some g c =
    let end : c.in-Some.end ≡ links_of c.args.links.now.rows (inverse g.K.Kind.kind 0) c.args.one = rw c.inverse.ensures at c.in-Some.ensures.linked in
    let some : c.in-Some.end ≢ 0 = λ none. false≢true (sym (c.in-Some.ensures.free.1 (sym c.in-Some.ensures.linked ∙ none))) in
    IfOk-weaker c.reaches.result _ _
    (λ reaches tells. joining-tells g.K.Kind.kind (links_of c.args.links.now.rows) c.args.one c.args.next c.in-Some.end reaches end some tells)
    (rw c.vertex_words.ensures at c.reaches.ensures)

pub returns-in-None : goal.returns-in-None
returns-in-None g c = (
  λ true. absurd (false≢true true),
  λ joining. absurd (joining-end g.K.Kind.kind (links_of c.args.links.now.rows) c.args.one c.args.next joining (rw c.inverse.ensures at (c.in-None.ensures.free.0 refl))),
)
