use Rattle.std.proofs.Common.{ℕ, ◌≡◌, ◌≢◌, ◌<◌, Contains, None, inl, inr, lit<, sym, ◌∙◌, arith}
use Rattle.map_defs.specs.Rows.{Rows}
use Rattle.store_defs.specs.Labelings.{Labeling, id_of}
use Rattle.valued_map.specs.Changing.{IsApartFrom}
use Rattle.valued_map.proofs.Adding.{added-told, on-ok}
use Rattle.valued_map.proofs.changed.join.Goals as goal

pub returns-in_default-clause-added : goal.returns-in_default-clause-added
returns-in_default-clause-added g c =
    let rows : Rows = c.args.links.now.rows in
    let dim : ℕ = c.args.dim in
    let dart : ℕ = c.args.dart in
    let now : Labeling = c.join_apart.new.labels in
    let below : c.args.lesser ≢ dart = λ same. (let low : c.args.lesser < dart = c.requires.lesser in omega arith) in
    let bare : id_of now dim c.args.lesser ≡ None = c.join_apart.ensures.others dim c.args.lesser below ∙ sym c.id.ensures.id ∙ c.in_default.is in
    on-ok c.join_apart.result
    (added-told rows (λ x. (x ≡ dart) × (id_of now dim dart ≢ None)) (λ x. (x ≡ dart) × IsApartFrom rows now dim (Contains c.args.words.now) c.args.lesser dart) c.args.touched.now.items c.join_apart.new.touched.items
    (λ x (same, apart) _. (
      same,
      λ none. elim apart [
        | inl other ↦ other (bare ∙ sym none)
        | inr way ↦ way.2.2 (c.join_apart.ensures.bare none way.0 way.1 way.2.0 ∙ sym none)
      ],
    )))
    c.join_apart.ensures.added

pub leads_apart-requires : goal.leads_apart-requires
leads_apart-requires g c =
    (lit< tt, (lit< tt, (omega (arith, c.see_sound.ensures.high), (c.requires.row, (c.put.ensures.after.here, λ w here. (c.requires.words w here).1)))))
