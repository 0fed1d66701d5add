use Rattle.std.proofs.Common.{ℕ, ◌↔◌, List, Contains, inr, refl, sym, subst, ◌∙◌, None}
use Rattle.std.proofs.lemmas.Bool.{false≢true}
use Rattle.map_defs.specs.Rows.{links_of}
use Rattle.map_defs.specs.Cells.{InCell}
use Rattle.store_defs.specs.Groups.{Group}
use Rattle.transport.specs.Found.{IsInSome, IsCellOf}
use Rattle.transport.proofs.touched.add_cell_of.Goals as goal

pub returns : goal.returns
returns g c =
    let cell : Group = record { dim = c.args.dim; darts = c.in_ok-darts.darts.items; value = None } in
    let is : IsCellOf (InCell g.K.Kind.kind (links_of c.args.links.now.rows) c.args.dim) c.args.dim c.args.dart cell = record {
      dim = refl;
      bare = refl;
      ascending = c.in_ok-darts.ensures.ascending;
      darts = subst (λ (i : ℕ). (x : ℕ) → Contains c.in_ok-darts.darts.items x ↔ InCell g.K.Kind.kind (links_of c.args.links.now.rows) i c.args.dart x) c.requires.walk c.in_ok-darts.ensures.members;
    } in
    inr (λ has. false≢true (sym c.if-is_in_some.false ∙ c.is_in_some.ensures.1 (subst (λ (cells : List Group). IsInSome cells c.args.dart) (sym c.deref.ensures.value) has)), (cell, c.in_ok-push.ensures.items, is))
