-- The values of a map, carried over a change of its links.
use Rattle.std.proofs.Common.{ℕ, suc, ◌≡◌, ◌⊎◌, ◌↔◌, ◌≤◌, ◌<◌, inl, inr, refl, sym, ap, subst, ◌∙◌, Option, Some, None, IsSome, arith}
use Rattle.map_defs.specs.Kind.{Kind}
use Rattle.map_defs.specs.Links.{Links, LeadsToLive}
use Rattle.map_defs.specs.Laws.{Laws}
use Rattle.map_defs.specs.LinkWords.{IsCellWord}
use Rattle.map_defs.specs.Cells.{here, Leads, InCell}
use Rattle.map_defs.specs.Walks.{IsTold}
use Rattle.map_defs.specs.Touched.{IsOldCell, IsAlike}
use Rattle.map_defs.specs.Values.{Value, Meaning, KeepsWhole, IsRepresentable}
use Rattle.map_defs.specs.Carry.{IsCarried, AreCarried, AreCarriedByLabel, IsValuedWith, AreEqualOnCells, known}
use Rattle.link_laws.proofs.Orbits.{orbit_trans}
use Rattle.link_laws.proofs.CellFacts.{cell_back}
use Rattle.value_laws.proofs.Rising.{find_least}
use Rattle.value_laws.proofs.Carrying.{carried_one}
use Rattle.value_laws.proofs.Renaming.{renamed}
use Rattle.value_laws.proofs.Keeping.{IsKeptCell, stays_without, stays_with, without_is_carried, with_is_carried}
use Rattle.value_laws.proofs.Touching.{cell_live}

pub cell_trans : (k : Kind) (L : Links) (i a b c : ℕ) → InCell k L i a b → InCell k L i b c → InCell k L i a c
cell_trans k L i a b c p q = orbit_trans (Leads L (IsCellWord k i)) a b c p q

-- two darts of one cell are in the same cells with all others
pub same_cell : (k : Kind) (L : Links) → Laws k L → (i d e : ℕ) → InCell k L i d e → (m : ℕ) → InCell k L i d m ↔ InCell k L i e m
same_cell k L w i d e h m = ((λ p. cell_trans k L i e d m (cell_back k L w i d e h) p), λ p. cell_trans k L i d e m h p)

module _ (k : Kind) (i : ℕ) (rule : Meaning) (L N : Links) (Live LiveAfter : ℕ → Type 0) (w : Laws k L) (wn : Laws k N) where
  pub one_value : (values after : ℕ → Option Value) → AreCarried k i rule L Live values N LiveAfter after → (d e : ℕ) → LiveAfter d → LiveAfter e → InCell k N i d e → after d ≡ after e
  one_value values after a d e ld le h = carried_one rule _ _ _ _ d e (after d) (after e) (same_cell k N wn i d e h) (a d ld) (a e le)

  pub carried_alike : (values after other : ℕ → Option Value) → AreCarried k i rule L Live values N LiveAfter after → AreCarried k i rule L Live values N LiveAfter other → (d : ℕ) → LiveAfter d → after d ≡ other d
  carried_alike values after other a b d l = carried_one rule _ _ _ _ d d (after d) (other d) (λ m. ((λ h. h), λ h. h)) (a d l) (b d l)

  module _ (leads : LeadsToLive LiveAfter N) (values : ℕ → Option Value) (equal : AreEqualOnCells k i L Live values) (d : ℕ) (held : (v : Value) → values d ≡ Some v → IsRepresentable v)
      (live : LiveAfter d) (o : IsOldCell k i L Live N d) where
    kept_cell : IsKeptCell (λ x. Live x × LiveAfter x) (InCell k N i) d
    kept_cell = record {
      own = here;
      live = λ x h. (o.lived x h, cell_live k Live L N w wn LiveAfter leads i d live h);
      among = λ m x h. ((λ p. cell_trans k N i d m x h p), λ p. cell_trans k N i m d x (cell_back k N wn i d m h) p);
    }

    same_value : (x : ℕ) → InCell k N i d x → values d ≡ values x
    same_value x h = equal d x (o.lived d here) ((o.same x).0 h)

    unvalued : values d ≡ None → (x : ℕ) → InCell k N i d x → IsValuedWith k i L values x x → ⊥
    unvalued e x h v = let s = v.1 in let f = same_value x h in cc (e, f, s)

    valued : (v : Value) → values d ≡ Some v → (m x : ℕ) → InCell k N i d m → (Live x × LiveAfter x) → IsValuedWith k i L values m x ↔ InCell k N i d x
    valued v e m x h l = (to, from)
      where
        old_m : InCell k L i d m
        old_m = (o.same m).0 h

        to : IsValuedWith k i L values m x → InCell k N i d x
        to p = (o.same x).1 (cell_trans k L i d m x old_m p.0)

        from : InCell k N i d x → IsValuedWith k i L values m x
        from p = (cell_trans k L i m d x (cell_back k L w i d m old_m) ((o.same x).0 p), subst IsSome (sym e ∙ same_value m h) refl)

    constant : (m : ℕ) → InCell k N i d m → known (values m) ≡ known (values d)
    constant m h = ap known (sym (same_value m h))

    stays_whole : KeepsWhole rule → (v : Value) → values d ≡ Some v → rule.share (known (values d)) 1 0 ≡ Some (known (values d))
    stays_whole whole v e = ap (λ r. rule.share (known r) 1 0) e ∙ (whole v (held v e) ∙ sym (ap (λ r. Some (known r)) e))

    -- an untouched cell keeps its value
    pub keeps_value : KeepsWhole rule → (r : Option Value) → IsCarried rule (λ x. known (values x)) (λ x. Live x × LiveAfter x) (IsValuedWith k i L values) (InCell k N i) d r → r ≡ values d
    keeps_value whole r a = go (values d) refl
      where
        go : (v : Option Value) → values d ≡ v → r ≡ values d
        go None e = stays_without rule _ _ _ _ d kept_cell (unvalued e) r a ∙ sym e
        go (Some v) e = stays_with rule _ _ _ _ d kept_cell (valued v e) (stays_whole whole v e) constant r a ∙ (ap Some (ap known e) ∙ sym e)

    abbrev Carries : Option Value → Type 0
    Carries = IsCarried rule (λ x. known (values x)) (λ x. Live x × LiveAfter x) (IsValuedWith k i L values) (InCell k N i) d

    with_value : KeepsWhole rule → (v : Value) → values d ≡ Some v → ((m : ℕ) × InCell k N i d m × ((y : ℕ) → InCell k N i d y → m ≤ y)) ⊎ ((y : ℕ) → y < suc d → InCell k N i d y → ⊥) → Carries (values d)
    with_value whole v e (inl f) = subst Carries (ap Some (ap known e) ∙ sym e) (with_is_carried rule _ _ _ _ d kept_cell (valued v e) (stays_whole whole v e) constant f.0 f.1 f.2)
    with_value whole v e (inr n) = absurd (n d (omega arith) here)

    -- and the kept value is the one that the definition gives
    pub kept_is_carried : KeepsWhole rule → IsTold (InCell k N i d) ⊎ (values d ≡ None) → IsCarried rule (λ x. known (values x)) (λ x. Live x × LiveAfter x) (IsValuedWith k i L values) (InCell k N i) d (values d)
    kept_is_carried whole t = go (values d) refl t
      where
        go : (v : Option Value) → values d ≡ v → IsTold (InCell k N i d) ⊎ (values d ≡ None) → Carries (values d)
        go None e t = subst Carries (sym e) (without_is_carried rule _ _ _ _ d kept_cell (unvalued e))
        go (Some v) e (inr z) = cc (e, z)
        go (Some v) e (inl told) = with_value whole v e (find_least (InCell k N i d) told (suc d))

-- The names of the old cells do not matter: labels that tell the same cells carry the same values.
module _ (k : Kind) (i : ℕ) (rule : Meaning) (N : Links) (Live LiveAfter : ℕ → Type 0) (after : ℕ → Option Value) where
  pub other_labels : (label other : ℕ → Option ℕ) (value worth : ℕ → Value) → ((x y : ℕ) → Live x → Live y → IsAlike label x y ↔ IsAlike other x y) → ((x : ℕ) → Live x → IsAlike label x x → value x ≡ worth x)
      → AreCarriedByLabel k i rule Live label value N LiveAfter after → AreCarriedByLabel k i rule Live other worth N LiveAfter after
  other_labels label other value worth e v a d l = renamed (λ x. Live x × LiveAfter x) (IsAlike label) (IsAlike other) (InCell k N i) (λ x y p q. e x y p.0 q.0) rule value worth (λ m p. v m p.0) d (after d) (a d l)

  -- and so do labels that tell the valued cells of a map
  pub by_labels : (L : Links) (values : ℕ → Option Value) (label : ℕ → Option ℕ) (value : ℕ → Value) → ((x y : ℕ) → Live x → Live y → IsAlike label x y ↔ IsValuedWith k i L values x y) → ((x : ℕ) → Live x → IsAlike label x x → value x ≡ known (values x))
      → AreCarriedByLabel k i rule Live label value N LiveAfter after ↔ AreCarried k i rule L Live values N LiveAfter after
  by_labels L values label value e v = (to, from)
    where
      to : AreCarriedByLabel k i rule Live label value N LiveAfter after → AreCarried k i rule L Live values N LiveAfter after
      to a d l = renamed (λ x. Live x × LiveAfter x) (IsAlike label) (IsValuedWith k i L values) (InCell k N i) (λ x y p q. e x y p.0 q.0) rule value (λ x. known (values x)) (λ m p. v m p.0) d (after d) (a d l)

      from : AreCarried k i rule L Live values N LiveAfter after → AreCarriedByLabel k i rule Live label value N LiveAfter after
      from a d l = renamed (λ x. Live x × LiveAfter x) (IsValuedWith k i L values) (IsAlike label) (InCell k N i) (λ x y p q. ((e x y p.0 q.0).1, (e x y p.0 q.0).0)) rule (λ x. known (values x)) value (λ m p o. sym (v m p.0 ((e m m p.0 p.0).1 o))) d (after d) (a d l)
