use Rattle.std.proofs.Common.{◌≡◌, ◌≤◌, List, Contains, is_some, sym, ap, ◌∙◌, subst}
use Rattle.std.specs.Prelude.{IfSome}
use Rattle.std.proofs.lemmas.Bool.{false≢true}
use Rattle.map_defs.specs.Rows.{Rows}
use Rattle.map_defs.specs.Edits.{Change, Edit}
use Rattle.valued_map.specs.Changing.{IsUnsettledOf, IsUnsettledFrom}
use Rattle.valued_map.proofs.Adding.{added-told, on-ok}
use Rattle.valued_map.proofs.Rerouting.{older-among, unsettled-among}
use Rattle.valued_map.proofs.touched.add_touched.Goals.{then-may_tell_of+in_ok-all_changes, else-may_tell_of, in-Some, in-None}
use Rattle.valued_map.proofs.touched.add_touched.Goals as goal

pub returns : goal.returns
returns g c =
    on-ok c.add_at_changes.result
    (added-told rows (λ x. (b : Change) × Contains cs b × IsUnsettledOf g.K.Kind.kind g.row.DIM e rows c.args.dim c.args.labels.now b x)
    (IsUnsettledFrom g.K.Kind.kind g.row.DIM e rows c.args.dim c.args.labels.now) c.args.touched.now.items c.add_at_changes.new.touched.items
    (λ x w _. unsettled-among g.K.Kind.kind g.row.DIM e rows c.args.dim c.args.labels.now c.args.older c.requires.older c.requires.sound cs held x w))
    c.add_at_changes.ensures
  where
    rows : Rows
    rows = c.args.links.now.rows

    e : Edit
    e = c.args.edit.now

    cs : List Change
    cs = c.deref.result.now

    -- all changes are told, or else a change of a dart that was made before is told by no row
    held : (b : Change) → Contains e.changes b → b.dart ≤ c.args.older → Contains cs b
    held b here low = subst (λ (bs : List Change). Contains bs b) (sym c.deref.ensures.value) (elim c.if-may_tell_of.branch [
      | then-may_tell_of+in_ok-all_changes w ↦ elim c.match-told.branch [
        | in-Some v ↦
            let all : v.in-Some.told.items ≡ e.changes =
            subst (λ o. IfSome o (λ t. t.items ≡ e.changes)) (sym w.told-is ∙ v.in-Some.is) w.in_ok-all_changes.ensures in
            subst (λ (bs : List Change). Contains bs b) (sym (ap (λ r. r.now.items) v.changes-is ∙ all)) here
        | in-None v ↦ absurd (false≢true (ap is_some (sym v.in-None.is ∙ w.told-is)))
      ]
      | else-may_tell_of w ↦ elim c.match-told.branch [
        | in-Some v ↦ absurd (false≢true (ap is_some (sym w.told-is ∙ v.in-Some.is)))
        | in-None v ↦
            let mine = subst (λ (bs : List Change). Contains bs b) (sym (ap (λ (d : Edit). d.changes) c.edit.view_is)) here in
            subst (λ (bs : List Change). Contains bs b) (sym (ap (λ r. r.now.items) v.changes-is))
            (older-among c.edit.inside.changes.items c.edit.inside.born c.args.older
            (λ may. false≢true (sym w.if-may_tell_of.false ∙ c.may_tell_of.ensures.1 may)) b mine low)
      ]
    ])
