-- The changes of one dart and of its new dart, and those of one dart after another.
use Rattle.std.proofs.Common.{ℕ, ◌≡◌, ◌≢◌, ◌+◌, ◌<◌, List, [], ◌∷◌, ◌++◌, length, take, get_or, Contains, refl, sym, ◌∙◌, inl, inr, append_assoc}
use Rattle.map_defs.specs.Kind.{Kind}
use Rattle.map_defs.specs.Links.{Links}
use Rattle.map_defs.specs.Edits.{Change}
use Rattle.cell_edit.specs.Writing.{WritesEntries, Appends, IsNewEntry, IsKeyEntry, IsCarriedEntry}
use Rattle.cell_edit.proofs.Appending.{each-more}
use Rattle.cell_edit.proofs.Writings.{writes-one, writes-append}

module _ (k : Kind) (L : Links) (i : ℕ) (star : ℕ → ℕ) (x : ℕ) where
  -- ---- the link of the old dart, before the links of the new one
  pub dart-pushed : (m : ℕ) (a b : List Change) → x ≢ star x
      → Appends L (IsNewEntry k L i star m x) (a ++ record { dart = x; link = i; old = L i x; new = star x } ∷ []) b → Appends L (IsKeyEntry k L i star m x) a b
  dart-pushed m a b apart (added, grown, writes) = (
    c ∷ added,
    grown ∙ append_assoc a (c ∷ []) added,
    writes-append L (λ d t y. (d ≡ x) × (t ≡ i) × (y ≡ star x)) (IsNewEntry k L i star m x) (c ∷ []) added (λ d t y z e o. apart (sym e.0 ∙ o.0)) (writes-one L c refl) writes,
  )
    where
      c : Change
      c = record { dart = x; link = i; old = L i x; new = star x }

-- ---- one dart after another
module _ (k : Kind) (L : Links) (i m : ℕ) (star : ℕ → ℕ) where
  -- the entries of two darts stand at places of their own
  entries-apart : (u x d t y z : ℕ) → u ≢ x → star u ≢ star x → u ≢ star x → x ≢ star u → IsKeyEntry k L i star m u d t y → IsKeyEntry k L i star m x d t z → ⊥
  entries-apart u x d t y z keys stars left right (inl e) (inl f) = keys (sym e.0 ∙ f.0)
  entries-apart u x d t y z keys stars left right (inl e) (inr f) = left (sym e.0 ∙ f.0)
  entries-apart u x d t y z keys stars left right (inr e) (inl f) = right (sym f.0 ∙ e.0)
  entries-apart u x d t y z keys stars left right (inr e) (inr f) = stars (sym e.0 ∙ f.0)

  pub carried-more : (keys : List ℕ) (p x : ℕ) (a b : List Change) → p < length keys → x ≡ get_or keys p x
      → ((u : ℕ) → Contains (take p keys) u → (u ≢ x) × (star u ≢ star x) × (u ≢ star x) × (x ≢ star u))
      → WritesEntries L (IsCarriedEntry k L i star m (take p keys)) a → Appends L (IsKeyEntry k L i star m x) a b → WritesEntries L (IsCarriedEntry k L i star m (take (p + 1) keys)) b
  carried-more keys p x a b low at apart =
      each-more L (IsKeyEntry k L i star m) keys p x a b low at
      (λ u has d t y z e f. let h = apart u has in entries-apart u x d t y z h.0 h.1 h.2 h.3 e f)
