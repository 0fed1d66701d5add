-- Two contents have one difference, and contents in a row one list of differences.
use Rattle.std.proofs.Common.{◌≡◌, ℕ, List, [], ◌∷◌, refl, sym, ap, ◌∙◌, inl, inr, arith}
use Rattle.value_laws.proofs.Rising.{rising_one}
use Rattle.machine_defs.specs.State.{Content}
use Rattle.map_defs.specs.Edits.{Change, Edit}
use Rattle.machine_defs.specs.Difference.{Difference, ValueChange, RuleChange, IsDifference, AreDifferences, IsLinkBefore, IsValueBefore, IsRuleBefore, first_born}
use Rattle.journal_laws.proofs.InOrder.{one-list}

pub links-apart : (b c : Change) → IsLinkBefore b c → IsLinkBefore c b → ⊥
links-apart b c (inl h) (inl k) = omega arith
links-apart b c (inl h) (inr k) = let e = k.0 in omega arith
links-apart b c (inr h) (inl k) = let e = h.0 in omega arith
links-apart b c (inr h) (inr k) = let p = h.1 in let q = k.1 in omega arith

pub values-apart : (b c : ValueChange) → IsValueBefore b c → IsValueBefore c b → ⊥
values-apart b c (inl h) (inl k) = omega arith
values-apart b c (inl h) (inr k) = let e = k.0 in omega arith
values-apart b c (inr h) (inl k) = let e = h.0 in omega arith
values-apart b c (inr h) (inr k) = let p = h.1 in let q = k.1 in omega arith

pub rules-apart : (b c : RuleChange) → IsRuleBefore b c → IsRuleBefore c b → ⊥
rules-apart b c h k = omega arith

edit_of : ℕ → List ℕ → List Change → Edit
edit_of births deaths changes = record { births = births; deaths = deaths; changes = changes }

same-edit : (e f : Edit) → e.births ≡ f.births → e.deaths ≡ f.deaths → e.changes ≡ f.changes → e ≡ f
unfolding edit_of
same-edit e f births deaths changes =
    let one : e ≡ edit_of e.births e.deaths e.changes = refl in
    let other : f ≡ edit_of f.births f.deaths f.changes = refl in
    cc

difference_of : ℕ → Edit → List ValueChange → List RuleChange → Difference
difference_of first edit values rules = record { first = first; edit = edit; values = values; rules = rules }

same-difference : (s t : Difference) → s.first ≡ t.first → s.edit ≡ t.edit → s.values ≡ t.values → s.rules ≡ t.rules → s ≡ t
unfolding difference_of
same-difference s t first edit values rules =
    let one : s ≡ difference_of s.first s.edit s.values s.rules = refl in
    let other : t ≡ difference_of t.first t.edit t.values t.rules = refl in
    cc

module _ (a b : Content) (s t : Difference) (p : IsDifference a b s) (q : IsDifference a b t) where
  births : s.edit.births ≡ t.edit.births
  births = omega (arith, p.born, q.born)

  edit : s.edit ≡ t.edit
  edit =
      same-edit s.edit t.edit births
      (rising_one s.edit.deaths t.edit.deaths p.ended_ascending q.ended_ascending
      (λ d. ((λ h. (q.ended d).1 ((p.ended d).0 h)), (λ h. (p.ended d).1 ((q.ended d).0 h)))))
      (one-list IsLinkBefore links-apart s.edit.changes t.edit.changes p.links_ordered q.links_ordered
      (λ c h. (q.links c).1 ((p.links c).0 h)) (λ c h. (p.links c).1 ((q.links c).0 h)))

  pub difference-one : s ≡ t
  difference-one =
      same-difference s t (p.first ∙ ap (first_born a) births ∙ sym q.first) edit
      (one-list IsValueBefore values-apart s.values t.values p.values_ordered q.values_ordered
      (λ c h. (q.values c).1 ((p.values c).0 h)) (λ c h. (p.values c).1 ((q.values c).0 h)))
      (one-list IsRuleBefore rules-apart s.rules t.rules p.rules_ordered q.rules_ordered
      (λ c h. (q.rules c).1 ((p.rules c).0 h)) (λ c h. (p.rules c).1 ((q.rules c).0 h)))

pub differences-one : (cs : List Content) (ss ts : List Difference) → AreDifferences cs ss → AreDifferences cs ts → ss ≡ ts
differences-one [] ss ts p q = p ∙ sym q
differences-one (a ∷ []) ss ts p q = p ∙ sym q
differences-one (a ∷ b ∷ more) ss ts (s, ss', is, one, rest) (t, ts', is', one', rest') =
    is ∙ ap (λ (u : Difference). u ∷ ss') (difference-one a b s t one one')
    ∙ ap (λ (us : List Difference). t ∷ us) (differences-one (b ∷ more) ss' ts' rest rest') ∙ sym is'
