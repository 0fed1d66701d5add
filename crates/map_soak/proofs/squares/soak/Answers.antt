use Rattle.std.proofs.Common.{◌≡◌, ℕ, List, [], ◌∷◌, codes, rules, SFits, ap, subst, ◌∙◌}
use Rattle.std.specs.Int.{w128}
use Rattle.std.proofs.lemmas.Int.{to_z-of_z}
use Rattle.map_defs.specs.Counts.{AreCounts}
use Rattle.machine_defs.specs.Script.{Rule}
use Rattle.machine_defs.specs.State.{State, empty_state}
use Rattle.machine_defs.specs.Text.{Counts}
use Rattle.map_soak.proofs.ObeyedFacts.{soaked, obeys-as, squares-as}
use Rattle.map_soak.proofs.squares.soak.Goals as goal

pub total-requires : goal.total-requires
total-requires g c = λ value has. ((c.in_ok-values.ensures.members value).0 (rw c.deref.ensures.value at has)).0

-- the counts that are answered are those of the map
counts-of : (s new : State) (items : List ℕ) → (counts : List ℕ) × AreCounts s.present.kind s.present.dim s.present.rows counts × (Counts items ≡ Counts counts) × (new ≡ s)
    → AreCounts s.present.kind s.present.dim s.present.rows items
counts-of s new items (counts, are, told, same) = let e : counts ≡ items = cc in subst (AreCounts s.present.kind s.present.dim s.present.rows) e are

pub returns : goal.returns
returns g c =
    let hook = g.H.Hook.hook c.args.hook.now in
    let begun = ap g.H.Hook.hook c.new-map.ensures.hook in
    let ruled =
    obeys-as (g.H.Hook.hook c.new-map.result.hook) hook c.new-map.result.state (empty_state g.K.Kind.kind 2) c.rule.new.self.state (Rule 2 (codes "sum") (codes "share") ∷ []) c.new-tally.result c.count_line.new.tally begun c.new-map.ensures.state
    (c.in_ok-count_line.ensures.obeyed (g.H.Hook.hook c.new-map.result.hook) c.new-map.result.state (Rule 2 (codes "sum") (codes "share")) c.rule.new.self.state c.rule.ensures.does) in
    let squares =
    squares-as (g.H.Hook.hook c.rule.new.self.hook) hook g.K.Kind.kind c.args.seed c.args.count c.rule.new.self.state c.obey_squares.new.map.state c.count_line.new.tally c.obey_squares.new.tally (ap g.H.Hook.hook c.rule.ensures.hook ∙ begun)
    c.in_ok-obey_squares.ensures.obeyed in
    let fits : SFits w128 c.total.result = search rules in
    let s = soaked hook g.K.Kind.kind c.args.seed c.args.count c.new-tally.result c.count_line.new.tally c.obey_squares.new.tally c.rule.new.self.state c.obey_squares.new.map.state
    c.new-tally.ensures.lines c.new-tally.ensures.accepted ruled squares in (
      s.0,
      c.obey_squares.new.map.state,
      c.in_ok-values.values.items,
      s.1,
      c.in_ok-values.ensures,
      counts-of c.obey_squares.new.map.state c.obey_squares.new.map.state c.in_ok-count.field-0.items c.in_ok-count.ensures,
      s.2,
      s.3,
      to_z-of_z w128 c.total.result fits ∙ (rw c.deref.ensures.value at c.total.ensures),
    )
