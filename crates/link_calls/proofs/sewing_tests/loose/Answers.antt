use Rattle.std.proofs.Common.{◌≡◌, ◌+◌, ◌≤◌, ◌∷◌, [], None, inl, inr, ◌∙◌, lit<}
use Rattle.std.proofs.lemmas.Bool.{cases_lt}
use Rattle.map_defs.specs.Rows.{made_max}
use Rattle.edit_laws.proofs.EditPlain.{births-fit}
use Rattle.link_calls.proofs.BornDarts.{none-sound, born-laws}
use Rattle.link_calls.proofs.sewing_tests.loose.Goals as goal

pub apply_plain-requires : goal.apply_plain-requires
apply_plain-requires g c =
    let rows : c.reserve.new.self.rows ≡ None ∷ [] = c.reserve.ensures.rows ∙ c.new-links.ensures.rows in
    let full = rw c.new-links.ensures.rows at c.in-Ok.ensures.full in
    let few : 0 + c.args.darts ≤ made_max = elim (cases_lt made_max (0 + c.args.darts)) [ inl above ↦ absurd (let e = full.1 above in cc) | inr low ↦ low ] in
    (lit< tt, rw (c.new.ensures.items, c.new-in-Ok.ensures.items, rows) (births-fit g.K.Kind.kind g.row.DIM c.args.darts (None ∷ []) (none-sound g.K.Kind.kind g.row.DIM), (c.in-Ok.ensures.spare, (c.in-Ok.ensures.room, few))))

pub returns : goal.returns
returns g c =
    let rows : c.reserve.new.self.rows ≡ None ∷ [] = c.reserve.ensures.rows ∙ c.new-links.ensures.rows in
    rw (c.apply_plain.ensures.rows, c.new.ensures.items, c.new-in-Ok.ensures.items, rows) (born-laws g.K.Kind.kind g.row.DIM c.args.darts)
