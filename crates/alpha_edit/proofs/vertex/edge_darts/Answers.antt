use Rattle.std.proofs.Common.{◌≡◌, ◌≢◌, Contains, sym, ◌∙◌, subst, inl, inr, refl, eqb-true}
use Rattle.std.proofs.lemmas.Bool.{false≢true}
use Rattle.std.proofs.lemmas.Result.{IfOk-weaker}
use Rattle.map_defs.specs.Links.{HasDimension}
use Rattle.map_defs.specs.Rows.{links_of}
use Rattle.link_laws.proofs.RowFacts.{rows_dimension}
use Rattle.alpha_edit.proofs.EdgeDarts.{lone-edge, open-edge, two-edge, four-edge, far-dart, pairs-members, lone-listed}
use Rattle.alpha_edit.proofs.vertex.edge_darts.Goals as goal

pub returns-then-eq-clause-members : goal.returns-then-eq-clause-members
returns-then-eq-clause-members g c =
    let rows = c.args.links.now.rows in
    let L = links_of rows in
    let above : HasDimension 2 L = subst (λ n. HasDimension n L) (sym c.dimension.ensures.dimension ∙ c.if-dimension-ne2.false) (rows_dimension g.row.DIM rows c.see_sound.ensures.sound.wide) in
    let to_end : L 0 c.args.dart ≡ c.in-Some-Some.end = sym (c.live_row-row.ensures 0) ∙ sym c.entry.ensures ∙ sym c.in-Some-Some.ensures.same in
    let real_end : c.in-Some-Some.end ≢ 0 = λ none. false≢true (sym (c.in-Some-Some.ensures.zero.1 (sym c.in-Some-Some.ensures.same ∙ none))) in
    let folded : L 2 c.args.dart ≡ c.in-Some-Some.end = sym (c.live_row-row.ensures 2) ∙ sym c.entry-2.ensures ∙ sym c.in-Some-Some.ensures'.same ∙ eqb-true _ _ (sym c.eq.ensures ∙ c.if-eq.true) in
    let edge = two-edge L c.requires.laws c.args.dart c.in-Some-Some.end to_end real_end above (inr folded) in
    IfOk-weaker c.two_darts.result _ _
    (λ darts same. λ x. (λ has. (edge x).0 ((same x).0 has), λ among. (same x).1 ((edge x).1 among)))
    c.two_darts.ensures.members

pub unreachable-requires : goal.unreachable-requires
unreachable-requires g c =
    let rows = c.args.links.now.rows in
    let L = links_of rows in
    let to_end : L 0 c.args.dart ≡ c.in-Some-Some.end = sym (c.live_row-row.ensures 0) ∙ sym c.entry.ensures ∙ sym c.in-Some-Some.ensures.same in
    let real_end : c.in-Some-Some.end ≢ 0 = λ none. false≢true (sym (c.in-Some-Some.ensures.zero.1 (sym c.in-Some-Some.ensures.same ∙ none))) in
    let to_across : L 2 c.args.dart ≡ c.in-Some-Some.across = sym (c.live_row-row.ensures 2) ∙ sym c.entry-2.ensures ∙ sym c.in-Some-Some.ensures'.same in
    let real_across : c.in-Some-Some.across ≢ 0 = λ none. false≢true (sym (c.in-Some-Some.ensures'.zero.1 (sym c.in-Some-Some.ensures'.same ∙ none))) in
    let to_far : L 2 c.in-Some-Some.end ≡ 0 = sym (c.live_row.ensures 2) ∙ sym c.entry-in-Some-Some.ensures ∙ c.in_default.ensures.zero.0 refl in
    far-dart L c.requires.laws c.args.dart c.in-Some-Some.end to_end real_end c.in-Some-Some.across 0 to_across real_across to_far refl

pub returns-in-Some-clause-members : goal.returns-in-Some-clause-members
returns-in-Some-clause-members g c =
    let rows = c.args.links.now.rows in
    let L = links_of rows in
    let above : HasDimension 2 L = subst (λ n. HasDimension n L) (sym c.dimension.ensures.dimension ∙ c.if-dimension-ne2.false) (rows_dimension g.row.DIM rows c.see_sound.ensures.sound.wide) in
    let to_end : L 0 c.args.dart ≡ c.in-Some-Some.end = sym (c.live_row-row.ensures 0) ∙ sym c.entry.ensures ∙ sym c.in-Some-Some.ensures.same in
    let real_end : c.in-Some-Some.end ≢ 0 = λ none. false≢true (sym (c.in-Some-Some.ensures.zero.1 (sym c.in-Some-Some.ensures.same ∙ none))) in
    let to_across : L 2 c.args.dart ≡ c.in-Some-Some.across = sym (c.live_row-row.ensures 2) ∙ sym c.entry-2.ensures ∙ sym c.in-Some-Some.ensures'.same in
    let real_across : c.in-Some-Some.across ≢ 0 = λ none. false≢true (sym (c.in-Some-Some.ensures'.zero.1 (sym c.in-Some-Some.ensures'.same ∙ none))) in
    let to_far : L 2 c.in-Some-Some.end ≡ c.in-Some.far = sym (c.live_row.ensures 2) ∙ sym c.entry-in-Some-Some.ensures ∙ sym c.in-Some.ensures.same in
    let edge = four-edge L c.requires.laws c.args.dart c.in-Some-Some.end to_end real_end c.in-Some-Some.across c.in-Some.far to_across real_across to_far above in
    let pairs = pairs-members _ _ _ _ _ _ _ _ c.ordered.ensures.which c.ordered-in-Some-Some.ensures.which in
    IfOk-weaker c.four_darts.result _ _
    (λ darts same. λ x. (λ has. (edge x).0 ((pairs x).0 ((same x).0 has)), λ among. (same x).1 ((pairs x).1 ((edge x).1 among))))
    c.four_darts.ensures.members

pub returns-in-Some-None-clause-members : goal.returns-in-Some-None-clause-members
returns-in-Some-None-clause-members g c =
    let rows = c.args.links.now.rows in
    let L = links_of rows in
    let above : HasDimension 2 L = subst (λ n. HasDimension n L) (sym c.dimension.ensures.dimension ∙ c.if-dimension-ne2.false) (rows_dimension g.row.DIM rows c.see_sound.ensures.sound.wide) in
    let to_end : L 0 c.args.dart ≡ c.in-Some-None.end = sym (c.live_row-row.ensures 0) ∙ sym c.entry.ensures ∙ sym c.in-Some-None.ensures.same in
    let real_end : c.in-Some-None.end ≢ 0 = λ none. false≢true (sym (c.in-Some-None.ensures.zero.1 (sym c.in-Some-None.ensures.same ∙ none))) in
    let free : L 2 c.args.dart ≡ 0 = sym (c.live_row-row.ensures 2) ∙ sym c.entry-2.ensures ∙ c.new-2.ensures.zero.0 (rw c.in-Some-None.is-1 refl) in
    let edge = two-edge L c.requires.laws c.args.dart c.in-Some-None.end to_end real_end above (inl free) in
    IfOk-weaker c.two_darts-in-Some-None.result _ _
    (λ darts same. λ x. (λ has. (edge x).0 ((same x).0 has), λ among. (same x).1 ((edge x).1 among)))
    c.two_darts-in-Some-None.ensures.members

pub returns-in-None-Some-clause-members : goal.returns-in-None-Some-clause-members
returns-in-None-Some-clause-members g c =
    let rows = c.args.links.now.rows in
    let L = links_of rows in
    let above : HasDimension 2 L = subst (λ n. HasDimension n L) (sym c.dimension.ensures.dimension ∙ c.if-dimension-ne2.false) (rows_dimension g.row.DIM rows c.see_sound.ensures.sound.wide) in
    let free : L 0 c.args.dart ≡ 0 = sym (c.live_row-row.ensures 0) ∙ sym c.entry.ensures ∙ c.new.ensures.zero.0 (rw c.in-None-Some.is-0 refl) in
    let to_across : L 2 c.args.dart ≡ c.in-None-Some.across = sym (c.live_row-row.ensures 2) ∙ sym c.entry-2.ensures ∙ sym c.in-None-Some.ensures.same in
    let real_across : c.in-None-Some.across ≢ 0 = λ none. false≢true (sym (c.in-None-Some.ensures.zero.1 (sym c.in-None-Some.ensures.same ∙ none))) in
    let edge = open-edge L c.requires.laws above c.args.dart c.in-None-Some.across free to_across real_across in
    IfOk-weaker c.two_darts-in-None-Some.result _ _
    (λ darts same. λ x. (λ has. (edge x).0 ((same x).0 has), λ among. (same x).1 ((edge x).1 among)))
    c.two_darts-in-None-Some.ensures.members

pub returns-in-None-None-clause-members : goal.returns-in-None-None-clause-members
returns-in-None-None-clause-members g c =
    let rows = c.args.links.now.rows in
    let L = links_of rows in
    let above : HasDimension 2 L = subst (λ n. HasDimension n L) (sym c.dimension.ensures.dimension ∙ c.if-dimension-ne2.false) (rows_dimension g.row.DIM rows c.see_sound.ensures.sound.wide) in
    let free_end : L 0 c.args.dart ≡ 0 = sym (c.live_row-row.ensures 0) ∙ sym c.entry.ensures ∙ c.new.ensures.zero.0 (rw c.in-None-None.is-0 refl) in
    let free_side : L 2 c.args.dart ≡ 0 = sym (c.live_row-row.ensures 2) ∙ sym c.entry-2.ensures ∙ c.new-2.ensures.zero.0 (rw c.in-None-None.is-1 refl) in
    let edge = lone-edge L above c.args.dart free_end free_side in
    IfOk-weaker c.from_slice.result _ _
    (λ darts items. λ x. (λ has. (edge x).0 ((lone-listed c.args.dart x).0 (subst (λ is. Contains is x) items has)), λ among. rw items ((lone-listed c.args.dart x).1 ((edge x).1 among))))
    c.from_slice.ensures.items
