-- Changes that are appended, by the entries that they write: one group behind another, and a group for each of a list.
use Rattle.std.proofs.Common.{ℕ, ◌≡◌, ◌≢◌, ◌+◌, ◌<◌, ◌⊎◌, ◌↔◌, List, [], ◌∷◌, ◌++◌, length, take, get_or, Contains, refl, sym, ap, ◌∙◌, subst, inl, inr, append_assoc}
use Rattle.std.proofs.lemmas.List.{append-nil, take_more}
use Rattle.std.proofs.lemmas.List.Elements.{Contains-append_left, Contains-push, Contains-push_cases}
use Rattle.map_defs.specs.Links.{Links}
use Rattle.map_defs.specs.Edits.{Change}
use Rattle.cell_edit.specs.Writing.{WritesEntries, Appends, IsLinkEntry}
use Rattle.cell_edit.proofs.Writings.{writes-none, writes-one, writes-append, writes-same}

module _ (L : Links) where
  pub appends-none : (E : ℕ → ℕ → ℕ → Type 0) (cs : List Change) → ((d t y : ℕ) → E d t y → ⊥) → Appends L E cs cs
  appends-none E cs none = ([], sym (append-nil cs), writes-none L E none)

  pub appends-then : (E F : ℕ → ℕ → ℕ → Type 0) (a b c : List Change) → ((d t y z : ℕ) → E d t y → F d t z → ⊥) → Appends L E a b → Appends L F b c
      → Appends L (λ d t y. E d t y ⊎ F d t y) a c
  appends-then E F a b c apart (first, grown, writes) (behind, longer, wrote) = (
    first ++ behind,
    longer ∙ ap (λ (cs : List Change). cs ++ behind) grown ∙ append_assoc a first behind,
    writes-append L E F first behind apart writes wrote,
  )

  pub appends-same : (E F : ℕ → ℕ → ℕ → Type 0) (a b : List Change) → ((d t y : ℕ) → E d t y ↔ F d t y) → Appends L E a b → Appends L F a b
  appends-same E F a b same (added, grown, writes) = (added, grown, writes-same L E F added same writes)

  -- the change of one link of one dart
  pub link-pushed : (d t z : ℕ) (cs : List Change) → z ≢ 0 → Appends L (IsLinkEntry d t z) cs (cs ++ record { dart = d; link = t; old = L t d; new = z } ∷ [])
  link-pushed d t z cs some =
      let c : Change = record { dart = d; link = t; old = L t d; new = z } in
      appends-same (λ e s y. (e ≡ d) × (s ≡ t) × (y ≡ z)) (IsLinkEntry d t z) cs (cs ++ c ∷ [])
      (λ e s y. (λ o. (o.0, o.1, o.2, λ none. some (sym o.2 ∙ none)), λ o. (o.0, o.1, o.2)))
      (c ∷ [], refl, writes-one L c refl)

-- ---- the entries of each of a list
module _ {X : Type 0} (L : Links) (E : X → ℕ → ℕ → ℕ → Type 0) where
  abbrev pub AreEntries : List X → ℕ → ℕ → ℕ → Type 0
  AreEntries xs d t y = (x : X) × Contains xs x × E x d t y

  pub each-more : (xs : List X) (p : ℕ) (x : X) (a b : List Change) → p < length xs → x ≡ get_or xs p x
      → ((u : X) → Contains (take p xs) u → (d t y z : ℕ) → E u d t y → E x d t z → ⊥)
      → WritesEntries L (AreEntries (take p xs)) a → Appends L (E x) a b → WritesEntries L (AreEntries (take (p + 1) xs)) b
  each-more xs p x a b low at apart writes (added, grown, wrote) =
      subst (WritesEntries L (AreEntries (take (p + 1) xs))) (sym grown)
      (writes-same L (λ d t y. AreEntries (take p xs) d t y ⊎ E x d t y) (AreEntries (take (p + 1) xs)) (a ++ added)
      (λ d t y. (to d t y, λ e. from d t y e (Contains-push_cases (take p xs) x e.0 (subst (λ us. Contains us e.0) more e.1))))
      (writes-append L (AreEntries (take p xs)) (E x) a added (λ d t y z e f. apart e.0 e.1 d t y z e.2 f) writes wrote))
    where
      more : take (p + 1) xs ≡ take p xs ++ x ∷ []
      more = take_more xs p x low ∙ ap (λ e. take p xs ++ e ∷ []) (sym at)

      to : (d t y : ℕ) → AreEntries (take p xs) d t y ⊎ E x d t y → AreEntries (take (p + 1) xs) d t y
      to d t y (inl e) = (e.0, subst (λ us. Contains us e.0) (sym more) (Contains-append_left (take p xs) (x ∷ []) e.0 e.1), e.2)
      to d t y (inr e) = (x, subst (λ us. Contains us x) (sym more) (Contains-push (take p xs) x), e)

      from : (d t y : ℕ) (e : AreEntries (take (p + 1) xs) d t y) → Contains (take p xs) e.0 ⊎ (x ≡ e.0) → AreEntries (take p xs) d t y ⊎ E x d t y
      from d t y e (inl has) = inl (e.0, has, e.2)
      from d t y e (inr is) = inr (subst (λ u. E u d t y) (sym is) e.2)
