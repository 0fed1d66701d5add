use Rattle.std.proofs.Common.{◌≡◌, None, [], ◌∷◌, arith, rules}
use Rattle.std.proofs.lemmas.Grind.{common_steps}
use Rattle.map_defs.specs.Kind.{alpha}
use Rattle.map_defs.specs.Rows.{IsSound}
use Rattle.map_defs.specs.Edits.{with_births, with_entry}
use Rattle.link_calls.proofs.link_rows_tests.links_are_set_one_by_one.Goals as goal

-- a link that is set and taken away leaves two darts without links
unlinked : IsSound alpha 8 (with_entry (with_entry (with_births 8 2 (None ∷ [])) 1 8 2) 1 8 0)
unlinked = grind (arith, common_steps)

pub finish-links-requires : goal.finish-links-requires
finish-links-requires g c =
    let same : c.set-2.new.self.rows ≡ with_entry (with_entry (with_births 8 2 (None ∷ [])) 1 8 2) 1 8 0 = search rules in
    (omega (arith), (omega (arith), rw same unlinked))
