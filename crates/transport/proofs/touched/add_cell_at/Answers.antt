use Rattle.std.proofs.Common.{ℕ, ◌≡◌, ◌+◌, ◌<◌, ◌↔◌, inr, refl, sym, subst, ◌∙◌, List, length, false, cond, None, Contains}
use Rattle.map_defs.specs.Rows.{links_of}
use Rattle.map_defs.specs.Cells.{InCell}
use Rattle.store_defs.specs.Groups.{Group}
use Rattle.transport.specs.Marks.{mark_at, is_among}
use Rattle.transport.specs.Found.{IsMarkedCell}
use Rattle.transport.proofs.touched.add_cell_at.Goals as goal

pub returns : goal.returns
returns g c =
    let cell : Group = record { dim = c.args.dim; darts = c.in_ok-darts.darts.items; value = None } in
    let fresh : IsMarkedCell (InCell g.K.Kind.kind (links_of c.args.links.now.rows) c.args.dim) c.args.dim c.args.place c.args.marks.now c.put_all.new.self cell = record {
      marked = c.in-Some.ensures.some.0;
      cell = record {
        dim = refl;
        bare = refl;
        ascending = c.in_ok-darts.ensures.ascending;
        darts = subst (λ (i : ℕ). (x : ℕ) → Contains c.in_ok-darts.darts.items x ↔ InCell g.K.Kind.kind (links_of c.args.links.now.rows) i (c.args.place + c.args.marks.now.first) x) c.requires.walk
            (subst (λ (d : ℕ). (x : ℕ) → Contains c.in_ok-darts.darts.items x ↔ InCell g.K.Kind.kind (links_of c.args.links.now.rows) c.args.walk.now d x) c.in-Some.ensures.some.1 c.in_ok-darts.ensures.members);
      };
      first = c.put_all.ensures.first;
      size = c.put_all.ensures.size;
      marks = subst (λ (l : List ℕ). (p : ℕ) → p < length c.args.marks.now.marks → mark_at c.put_all.new.self p ≡ cond (is_among l (p + c.args.marks.now.first)) false (mark_at c.args.marks.now p)) c.deref.ensures.value c.put_all.ensures.marks;
    } in
    inr (cell, c.in_ok-push.ensures.items, fresh)
