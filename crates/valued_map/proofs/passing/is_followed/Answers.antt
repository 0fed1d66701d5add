use Rattle.std.proofs.Common.{ℕ, suc, ◌≡◌, ◌-◌, ◌↔◌, not, nat_eq, refl, sym, ap, subst, ◌∙◌, arith}
use Rattle.std.specs.Prelude.{IsTrue}
use Rattle.std.proofs.lemmas.Bool.{false≢true, not-true, eqb-false, ne_eqb, leb-true, le-leb}
use Rattle.map_defs.specs.Kind.{Kind, alpha, beta}
use Rattle.valued_map.specs.Changing.{IsFollowed}
use Rattle.valued_map.proofs.Followed.{alpha-follows, alpha-followed, vertex-followed, edge-follows, edge-followed, cell-follows, cell-followed}
use Rattle.valued_map.proofs.passing.is_followed.Goals as goal

beta-else : (k : Kind) → (k ≡ alpha → ⊥) → k ≡ beta
beta-else alpha other = absurd (other refl)
beta-else beta other = refl

pub returns-then-is_generalized : goal.returns-then-is_generalized
returns-then-is_generalized g c =
    let dim : ℕ = c.args.dim in
    let link : ℕ = c.args.link in
    subst (λ (k : Kind). IsTrue (not (nat_eq link dim)) ↔ IsFollowed k dim link) (sym (c.is_generalized.ensures.0 c.if-is_generalized.true))
    ((λ differ. alpha-followed dim link (eqb-false link dim (not-true _ differ))), (λ follows. ap not (ne_eqb link dim (alpha-follows dim link follows))))

pub returns-in-0 : goal.returns-in-0
returns-in-0 g c =
    let kind : g.K.Kind.kind ≡ beta = beta-else _ (λ is. false≢true (sym c.if-is_generalized.false ∙ c.is_generalized.ensures.1 is)) in
    ((λ _. rw (c.in-0.is, kind) (vertex-followed c.args.link)), (λ _. refl))

pub returns-in-1 : goal.returns-in-1
returns-in-1 g c =
    let kind : g.K.Kind.kind ≡ beta = beta-else _ (λ is. false≢true (sym c.if-is_generalized.false ∙ c.is_generalized.ensures.1 is)) in
    rw (c.in-1.is, kind)
    ((λ far. edge-followed c.args.link (leb-true 2 c.args.link far)), (λ follows. le-leb 2 c.args.link (edge-follows c.args.link follows)))

pub returns-in_default : goal.returns-in_default
returns-in_default g c =
    let link : ℕ = c.args.link in
    let kind : g.K.Kind.kind ≡ beta = beta-else _ (λ is. false≢true (sym c.if-is_generalized.false ∙ c.is_generalized.ensures.1 is)) in
    let above : ℕ = suc (suc (c.args.dim - 2)) in
    let at : c.args.dim ≡ above = omega (arith, c.in_default) in
    rw (at, kind)
    ((λ differ. cell-followed (c.args.dim - 2) link (eqb-false link above (not-true _ differ))), (λ follows. ap not (ne_eqb link above (cell-follows (c.args.dim - 2) link follows))))
