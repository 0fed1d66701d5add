use Rattle.std.proofs.Common.{◌≡◌, ℕ, ◌≤◌, List, slice_set, Option, Some, sym, subst, ap, ◌∙◌, lit<, arith}
use Rattle.std.proofs.lemmas.Result.{err_from_is_err_and}
use Rattle.map_defs.specs.Rows.{Rows, made as made_of}
use Rattle.map_defs.specs.Values.{Rule}
use Rattle.machine_defs.specs.Loading.{first_copy}
use Rattle.label_laws.specs.Contents.{content_of}
use Rattle.label_laws.specs.Maps.{IsStoredMap}
use Rattle.label_laws.proofs.Same.{content-alike}
use Rattle.valued_map.proofs.Loaded.{roomier-stored}
use Rattle.label_laws.proofs.LineSteps.{made_rules}
use Rattle.valued_map.proofs.Loaded.{load-labelled, load-long, load-stored, load-made}
use Rattle.valued_map.proofs.map.ValuedMap.load_links.Goals as goal

pub returns-in_err-prepare-clause-err : goal.returns-in_err-prepare-clause-err
returns-in_err-prepare-clause-err g c =
    let k = g.K.Kind.kind in
    let n : ℕ = g.row.DIM in
    let rows : Rows = c.self.inside.links.rows in
    let rules : List (Option Rule) = c.self.inside.rules in
    let same = ap (λ (rs : List (Option Rule)). content_of k n rows c.prepare.new.labels c.prepare.new.pool rs) c.in_err-prepare.ensures.err
    ∙ content-alike k n rows c.self.inside.labels c.prepare.new.labels c.self.inside.pool c.prepare.new.pool rules c.prepare.ensures.ids c.prepare.ensures.slots in
    let error = err_from_is_err_and c.from_residual.result c.from_residual.ensures.1 in
    rw (error.1, ← c.self.view_is) same

pub invariant_of-self : goal.invariant_of-self
invariant_of-self g c =
    let k = g.K.Kind.kind in
    let n : ℕ = g.row.DIM in
    let rows : Rows = c.self.inside.links.rows in
    let rules : List (Option Rule) = c.self.inside.rules in
    subst (λ (rs : List (Option Rule)). IsStoredMap k n rows c.prepare.new.labels c.prepare.new.pool rs) (sym c.in_err-prepare.ensures.err)
    (roomier-stored k n rows c.self.inside.labels c.prepare.new.labels c.self.inside.pool c.prepare.new.pool rules c.self.invariant c.prepare.ensures.ids c.prepare.ensures.places_stay c.prepare.ensures.longer c.prepare.ensures.slots)

pub give_cells-requires : goal.give_cells-requires
give_cells-requires g c =
    let k = g.K.Kind.kind in
    let n : ℕ = g.row.DIM in
    let rows : Rows = c.self.inside.links.rows in
    let new : Rows = c.args.links.rows in
    let made = c.made-made.ensures in
    let empty = rw (← c.self.view_is) at c.requires.new in
    let long : made_of new ≤ c.prepare.new.labels.made = omega (arith, c.in_ok-prepare.ensures.long, made.made) in (
      lit< tt,
      (
        load-long k n rows c.self.inside.labels c.self.inside.pool c.self.inside.rules c.self.invariant empty new made.begun made.sound c.requires.laws
            c.prepare.new.labels c.prepare.new.pool c.prepare.ensures.ids long c.in_ok-prepare.ensures.places c.args.places.now c.requires.members c.requires.ascending c.args.cells.now c.requires.cells,
        (
          load-labelled k n rows c.self.inside.labels c.self.inside.pool c.self.inside.rules c.self.invariant empty new made.begun made.sound c.requires.laws
              c.prepare.new.labels c.prepare.new.pool c.prepare.ensures.ids long c.in_ok-prepare.ensures.places c.args.places.now c.requires.members c.requires.ascending c.args.cells.now c.requires.cells,
          c.in_ok-prepare.ensures.values,
        ),
      ),
    )

pub invariant_of-self-2 : goal.invariant_of-self-2
invariant_of-self-2 g c =
    let k = g.K.Kind.kind in
    let n : ℕ = g.row.DIM in
    let rows : Rows = c.self.inside.links.rows in
    let new : Rows = c.args.links.rows in
    let made = c.made-made.ensures in
    let empty = rw (← c.self.view_is) at c.requires.new in
    let long : made_of new ≤ c.prepare.new.labels.made = omega (arith, c.in_ok-prepare.ensures.long, made.made) in
    let ruled : c.put_rule.new.rules ≡ slice_set (made_rules n c.self.inside.rules) 0 (Some first_copy) =
    c.put_rule.ensures ∙ ap (λ (rs : List (Option Rule)). slice_set rs 0 (Some first_copy)) c.in_ok-prepare.ensures.rules in
    rw ruled (load-stored k n rows c.self.inside.labels c.self.inside.pool c.self.inside.rules c.self.invariant empty new made.begun made.sound c.requires.laws
    c.prepare.new.labels c.prepare.new.pool c.prepare.ensures.ids long c.in_ok-prepare.ensures.places c.args.places.now c.requires.members c.requires.ascending c.args.cells.now c.requires.cells
    c.give_cells.new.labels c.give_cells.new.pool c.give_cells.ensures)

pub returns-clause-loaded : goal.returns-clause-loaded
returns-clause-loaded g c =
    let k = g.K.Kind.kind in
    let n : ℕ = g.row.DIM in
    let rows : Rows = c.self.inside.links.rows in
    let new : Rows = c.args.links.rows in
    let made = c.made-made.ensures in
    let empty = rw (← c.self.view_is) at c.requires.new in
    let long : made_of new ≤ c.prepare.new.labels.made = omega (arith, c.in_ok-prepare.ensures.long, made.made) in
    let ruled : c.put_rule.new.rules ≡ slice_set (made_rules n c.self.inside.rules) 0 (Some first_copy) =
    c.put_rule.ensures ∙ ap (λ (rs : List (Option Rule)). slice_set rs 0 (Some first_copy)) c.in_ok-prepare.ensures.rules in
    rw ruled (load-made k n rows c.self.inside.labels c.self.inside.pool c.self.inside.rules c.self.invariant empty new made.begun made.sound c.requires.laws
    c.prepare.new.labels c.prepare.new.pool c.prepare.ensures.ids long c.in_ok-prepare.ensures.places c.args.places.now c.requires.members c.requires.ascending c.args.cells.now c.requires.cells
    c.give_cells.new.labels c.give_cells.new.pool c.give_cells.ensures)
