use Rattle.std.proofs.Common.{◌≡◌, sym, ap, ◌∙◌}
use Rattle.std.proofs.lemmas.Bool.{false≢true}
use Rattle.std.proofs.lemmas.List.{take_all}
use Rattle.machine_defs.specs.Listing.{ListRow}
use Rattle.machine_defs.specs.ListingFaults.{IsLawful}
use Rattle.list_text.proofs.LawParts.{first-at, more-have}
use Rattle.list_text.proofs.laws.first_unlawful.Goals as goal

pub returns-then-not-keeps_laws-clause-fails : goal.returns-then-not-keeps_laws-clause-fails
returns-then-not-keeps_laws-clause-fails g c =
    let dart : c.number.result ≡ c.index-rows-place.result.dart = c.number.ensures.same ∙ ap (λ (r : ListRow). r.dart) c.row.view_is in
    first-at (λ (row : ListRow). IsLawful g.K.Kind.kind c.args.rows.now row.dart) c.args.rows.now c.loop-place.place c.index-rows-place.result c.loop-place-test.true c.index-rows-place.is c.loop-place.invariant
    (λ lawful. false≢true (sym c.if-not-keeps_laws.true ∙ c.keeps_laws.ensures.1 (rw (c.requires.same, dart) lawful)))

pub loop-place-preserved : goal.loop-place-preserved
loop-place-preserved g c =
    let dart : c.number.result ≡ c.index-rows-place.result.dart = c.number.ensures.same ∙ ap (λ (r : ListRow). r.dart) c.row.view_is in
    let lawful : IsLawful g.K.Kind.kind c.args.rows.now c.index-rows-place.result.dart = rw (c.requires.same, dart) at (c.keeps_laws.ensures.0 c.if-not-keeps_laws.false) in
    more-have (λ (row : ListRow). IsLawful g.K.Kind.kind c.args.rows.now row.dart) c.args.rows.now c.loop-place.place c.index-rows-place.result c.loop-place-test.true c.index-rows-place.is c.loop-place.invariant lawful

pub returns-clause-keep : goal.returns-clause-keep
returns-clause-keep g c = rw (take_all c.loop-place.place c.args.rows.now c.loop-place-test.false) at c.loop-place.invariant
