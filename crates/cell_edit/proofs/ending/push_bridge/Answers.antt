use Rattle.std.proofs.Common.{ℕ, refl, ◌≡◌, ◌≢◌, Contains, sym, ◌∙◌, subst, arith}
use Rattle.std.proofs.lemmas.Bool.{false≢true}
use Rattle.std.proofs.lemmas.List.Elements.{All-contains}
use Rattle.map_defs.specs.Rows.{links_of, IsLive}
use Rattle.cell_edit.specs.Bridging.{LeadsAcross}
use Rattle.cell_edit.proofs.Beyond.{none-unless}
use Rattle.cell_edit.proofs.Premises.{live-dart}
use Rattle.cell_edit.proofs.BridgeEntries.{beyond-back, bridge-free, bridge-inner, bridge-push}
use Rattle.cell_edit.proofs.RowSize.{row-fits}
use Rattle.cell_edit.proofs.ending.push_bridge.Goals as goal

pub returns-in_default-clause-entries : goal.returns-in_default-clause-entries
returns-in_default-clause-entries g c =
    bridge-free g.K.Kind.kind (links_of c.args.links.now.rows) c.args.link c.args.beside c.args.darts.now c.args.dart c.args.changes.now.items
    (sym (c.entry.ensures ∙ c.requires.row c.args.link) ∙ c.new.ensures.zero.0 (none-unless c.new.result c.in_default.not-Some))

pub returns-then-is_among-clause-entries : goal.returns-then-is_among-clause-entries
returns-then-is_among-clause-entries g c =
    bridge-inner g.K.Kind.kind (links_of c.args.links.now.rows) c.args.link c.args.beside c.args.darts.now c.args.dart c.args.changes.now.items
    (subst (Contains c.args.darts.now) (c.in-Some.ensures.same ∙ c.entry.ensures ∙ c.requires.row c.args.link) (c.is_among.ensures.0 c.if-is_among.true))

pub first_outside_from_within-end-requires : goal.first_outside_from_within-end-requires
first_outside_from_within-end-requires g c =
    let is : c.in-Some.remaining ≡ links_of c.args.links.now.rows c.args.link c.args.dart = c.in-Some.ensures.same ∙ c.entry.ensures ∙ c.requires.row c.args.link in
    let some : c.in-Some.remaining ≢ 0 = λ none. false≢true (sym (c.in-Some.ensures.zero.1 (sym c.in-Some.ensures.same ∙ none))) in
    let back : links_of c.args.links.now.rows c.args.link c.in-Some.remaining ≡ c.args.dart =
    beyond-back g.K.Kind.kind (links_of c.args.links.now.rows) c.requires.laws c.args.link c.args.dart c.in-Some.remaining c.requires.can.own is some in
    let darts : Contains c.args.darts.now 0 → ⊥ = λ has. live-dart g.K.Kind.kind g.row.DIM c.args.links.now.rows c.see_sound.ensures.sound 0 (All-contains (λ (d : ℕ). IsLive c.args.links.now.rows d) c.args.darts.now 0 c.requires.can.live has) refl in
    let live : IsLive c.args.links.now.rows c.args.dart = All-contains (λ (d : ℕ). IsLive c.args.links.now.rows d) c.args.darts.now c.args.dart c.requires.can.live c.requires.key in
    let e = c.requires.can.ends c.in-Some.remaining (λ has. false≢true (sym c.if-is_among.false ∙ c.is_among.ensures.1 has)) in
    (omega arith, (row-fits g.row.DIM c.see_sound.ensures.high, (c.requires.can.ascending, (darts, (c.requires.key, (live, (c.requires.row, (e.0, subst (λ x. LeadsAcross g.K.Kind.kind (links_of c.args.links.now.rows) c.args.link c.args.beside c.args.darts.now x e.0) back e.1))))))))

pub returns-clause-entries : goal.returns-clause-entries
returns-clause-entries g c =
    let is : c.in-Some.remaining ≡ links_of c.args.links.now.rows c.args.link c.args.dart = c.in-Some.ensures.same ∙ c.entry.ensures ∙ c.requires.row c.args.link in
    let some : c.in-Some.remaining ≢ 0 = λ none. false≢true (sym (c.in-Some.ensures.zero.1 (sym c.in-Some.ensures.same ∙ none))) in
    bridge-push g.K.Kind.kind (links_of c.args.links.now.rows) c.args.link c.args.beside c.args.darts.now c.args.dart c.in-Some.remaining c.first_outside_from_within-end.result c.landing.result c.args.changes.now.items c.push_reserved.new.self.items
    is some (λ has. false≢true (sym c.if-is_among.false ∙ c.is_among.ensures.1 has))
    (beyond-back g.K.Kind.kind (links_of c.args.links.now.rows) c.requires.laws c.args.link c.args.dart c.in-Some.remaining c.requires.can.own is some)
    c.first_outside_from_within-end.ensures c.landing.ensures (rw (c.new-2.ensures, c.number.ensures.same) at c.push_reserved.ensures.items)
