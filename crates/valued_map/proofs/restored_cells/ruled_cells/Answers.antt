use Rattle.std.proofs.Common.{ℕ, ◌≡◌, List, IsSome, Contains, lit<, inl, inr, refl, sym, subst, rules}
use Rattle.map_defs.specs.LinkWords.{LinkWord, IsWithin}
use Rattle.machine_defs.specs.Difference.{Difference}
use Rattle.map_defs.specs.Rows.{Rows, links_of}
use Rattle.map_defs.specs.Cells.{InCell}
use Rattle.store_defs.specs.Groups.{rule_at}
use Rattle.transport.specs.Pieces.{AreBareCells}
use Rattle.label_laws.specs.Stored.{stored_value}
use Rattle.valued_map.specs.Undoing.{IsMapWord}
use Rattle.valued_map.specs.Ways.{in_turn, value_along, IsStepped}
use Rattle.valued_map.proofs.Along.{near-of}
use Rattle.valued_map.proofs.RestoredGroups.{restored-one, valued-as}
use Rattle.valued_map.proofs.restored_cells.ruled_cells.Goals as goal

pub stepped_darts-requires : goal.stepped_darts-requires
stepped_darts-requires g c = (
  lit< tt,
  (
    c.dimension.ensures.low,
    (
      c.requires.sound,
      λ w here.
          (let has = (c.in_ok-words.ensures w).0 (subst (λ (ws : List LinkWord). Contains ws w) c.deref.ensures.value here) in subst (λ (d : ℕ). IsWithin d w) c.dimension.ensures.dimension has.1),
    ),
  ),
)

pub returns : goal.returns
returns g c =
    let k = g.K.Kind.kind in
    let n : ℕ = g.row.DIM in
    let rows : Rows = c.args.links.now.rows in
    let i : ℕ = c.args.dim in
    let steps : List Difference = c.args.steps.now in
    let darts : List ℕ = c.add_revalued.new.darts.items in
    let added = c.in_ok-add_revalued.ensures in
    let words : List LinkWord = c.deref.result.now in
    let member : (w : LinkWord) → IsMapWord k n i w → Contains words w =
    λ w is. subst (λ (ws : List LinkWord). Contains ws w) (sym c.deref.ensures.value) ((c.in_ok-words.ensures w).1 (is.0, subst (λ (d : ℕ). IsWithin d w) (sym c.dimension.ensures.dimension) is.1)) in
    let some : IsSome (rule_at c.args.rules.now i) = c.has_rule.ensures.0 (search rules) in
    let bare = subst (λ (xs : List ℕ). AreBareCells (InCell k (links_of rows) i) i xs c.in_ok-cells.cells.items) c.deref-2.ensures.value c.in_ok-cells.ensures in
    restored-one k rows c.requires.laws i (λ j. (j ≡ i) × IsSome (rule_at c.args.rules.now j)) (IsStepped c.args.way k n rows steps)
    (λ j d. value_along c.args.way (in_turn c.args.way c.args.steps.now) j d (stored_value c.args.pool.now c.args.labels.now j d)) darts (refl, some) (λ j h. h.0)
    (λ x h. elim (added.live x h) [ inl before ↦ c.in_ok-darts.ensures.live x before | inr live ↦ live ])
    (λ d want live. elim want [ inl near ↦ added.kept d (c.in_ok-darts.ensures.all d (near-of c.args.way (IsMapWord k n i) (Contains words) member rows steps d near) live) | inr changed ↦ added.all d changed live ])
    c.in_ok-cells.cells.items c.give_values.new.cells.items bare
    (valued-as _ (λ d. value_along c.args.way (in_turn c.args.way c.args.steps.now) i d (stored_value c.args.pool.now c.args.labels.now i d)) _ c.in_ok-cells.cells.items c.give_values.new.cells.items
    (λ d. c.in_ok-values.ensures d (stored_value c.args.pool.now c.args.labels.now i d)) c.give_values.ensures)
