use Rattle.std.proofs.Common.{◌≡◌, ℕ, ◌+◌, ◌-◌, ◌≤◌, length, ap, ◌∙◌, subst, inl, inr, arith, lit<}
use Rattle.std.proofs.lemmas.Bool.{cases_lt}
use Rattle.machine_defs.specs.Listing.{ListRow}
use Rattle.list_text.specs.Ranks.{AreSetUpTo, AreRanked}
use Rattle.list_text.proofs.Ranking.{ranked-sound}
use Rattle.list_text.proofs.RankSteps.{number-is, row-links, not-full}
use Rattle.list_text.proofs.cells.ranked_links.Goals as goal

pub set_links-requires : goal.set_links-requires
set_links-requires g c =
    let number : c.unwrap-dart.result ≡ c.loop-place.place + 1 = number-is c.new-in-loop-place.result c.unwrap-dart.result (c.loop-place.place + 1) c.unwrap-dart.ensures c.new-in-loop-place.ensures.same in
    let back : c.unwrap-dart.result - 1 ≡ c.loop-place.place = omega (arith, number) in
    let links : c.as_slice.result.now ≡ c.index-rows-place.result.links = c.as_slice.ensures.value ∙ ap (λ (r : ListRow). r.links) c.row.view_is in
    let found = row-links g.row.DIM c.args.rows.now c.loop-place.place c.index-rows-place.result c.requires.rows c.loop-place-test.true c.index-rows-place.is in
    rw (c.requires.same, back, links)
    (lit< tt, (c.requires.low, (c.requires.high, (omega (arith, number), (c.requires.few, (found.0, (found.1, c.loop-place.invariant)))))))

pub finish-requires : goal.finish-requires
finish-requires g c =
    let end : c.loop-place.place ≡ length c.args.rows.now = omega arith in
    let ranked : AreRanked g.row.DIM c.args.rows.now c.loop-place.builder.rows =
    subst (λ (p : ℕ). AreSetUpTo g.row.DIM c.args.rows.now p 0 c.loop-place.builder.rows) end c.loop-place.invariant in
    let few : length c.args.rows.now ≤ 4194304 = elim (cases_lt 4194304 (length c.args.rows.now)) [
      | inl high ↦ absurd (not-full _ _ (c.in-Ok.ensures.full.1 high))
      | inr low ↦ low
    ] in
    (lit< tt, (lit< tt, ranked-sound g.K.Kind.kind g.row.DIM c.args.rows.now c.loop-place.builder.rows c.requires.rows c.requires.lawful ranked few))
