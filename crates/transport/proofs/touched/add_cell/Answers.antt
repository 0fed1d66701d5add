use Rattle.std.proofs.Common.{ℕ, ◌<◌, ◌↔◌, ◌⊎◌, inr, refl, sym, subst, ◌∙◌, List, length, slice_index, None, Contains}
use Rattle.std.proofs.lemmas.Bool.{false≢true}
use Rattle.map_defs.specs.Rows.{links_of}
use Rattle.map_defs.specs.Cells.{InCell}
use Rattle.store_defs.specs.Groups.{Group}
use Rattle.transport.specs.Wanted.{IsMarked}
use Rattle.transport.specs.Found.{IsNewCell}
use Rattle.transport.proofs.touched.add_cell.Goals as goal

pub returns : goal.returns
returns g c =
    let cell : Group = record { dim = c.args.dim; darts = c.in_ok-darts.darts.items; value = None } in
    let fresh : IsNewCell (InCell g.K.Kind.kind (links_of c.args.links.now.rows) c.args.dim) c.args.dim c.args.place c.args.wanted.now c.mark.new.self cell = record {
      unmarked = λ marked. false≢true (sym c.if-is_found.false ∙ c.is_found.ensures.1 marked);
      cell = record {
        dim = refl;
        bare = refl;
        ascending = c.in_ok-darts.ensures.ascending;
        darts = subst (λ (i : ℕ). (x : ℕ) → Contains c.in_ok-darts.darts.items x ↔ InCell g.K.Kind.kind (links_of c.args.links.now.rows) i (slice_index c.args.wanted.now.darts c.args.place) x) c.requires.walk
            (subst (λ (d : ℕ). (x : ℕ) → Contains c.in_ok-darts.darts.items x ↔ InCell g.K.Kind.kind (links_of c.args.links.now.rows) c.args.walk.now d x) c.dart.ensures c.in_ok-darts.ensures.members);
      };
      same = c.mark.ensures.darts;
      marks = subst (λ (l : List ℕ). (p : ℕ) → p < length c.args.wanted.now.darts → IsMarked c.mark.new.self p ↔ (IsMarked c.args.wanted.now p ⊎ Contains l (slice_index c.args.wanted.now.darts p))) c.deref.ensures.value c.mark.ensures.marks;
    } in
    inr (cell, c.in_ok-push.ensures.items, fresh)
