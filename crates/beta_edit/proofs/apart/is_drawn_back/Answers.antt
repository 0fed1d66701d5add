use Rattle.std.proofs.Common.{◌≢◌, sym, ◌∙◌, refl}
use Rattle.std.proofs.lemmas.Bool.{false≢true}
use Rattle.map_defs.specs.Rows.{links_of}
use Rattle.beta_edit.proofs.StaysApart.{end-tells, endless-tells}
use Rattle.beta_edit.proofs.apart.is_drawn_back.Goals as goal

pub returns-in-Some-walk_end : goal.returns-in-Some-walk_end
returns-in-Some-walk_end g c =
    let linked : links_of c.args.links.now.rows c.args.link c.args.dart ≢ 0 = λ none. false≢true (sym (c.in-Some.ensures.free.1 none)) in
    end-tells (links_of c.args.links.now.rows) c.args.beside c.args.link c.args.darts.now c.args.dart c.in-Some.remaining
    linked c.in-Some.ensures.linked (λ has. false≢true (sym c.if-is_among.false ∙ c.is_among.ensures.1 has))
    c.in-Some-walk_end.end c.number.result c.in-Some-walk_end.end refl c.number.ensures.same c.in-Some-walk_end.ensures.end

pub returns-in-None : goal.returns-in-None
returns-in-None g c =
    let linked : links_of c.args.links.now.rows c.args.link c.args.dart ≢ 0 = λ none. false≢true (sym (c.in-Some.ensures.free.1 none)) in
    endless-tells (links_of c.args.links.now.rows) c.args.beside c.args.link c.args.darts.now c.args.dart c.in-Some.remaining
    linked c.in-Some.ensures.linked (λ has. false≢true (sym c.if-is_among.false ∙ c.is_among.ensures.1 has))
    c.in-None.ensures.endless
