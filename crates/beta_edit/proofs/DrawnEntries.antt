-- The changes of one link of a dart that ends, of one dart after another of them, and of one after another.
use Rattle.std.proofs.Common.{ℕ, ◌≡◌, ◌≢◌, ◌+◌, ◌<◌, ◌≤◌, ◌⊎◌, List, [], ◌∷◌, ◌++◌, Option, length, take, get_or, Contains, sym, ap, ◌∙◌, subst, inl, inr, append_assoc, arith}
use Rattle.std.specs.List.Sorted.{IsStrictlyIncreasing}
use Rattle.std.proofs.lemmas.Bool.{cases_lt}
use Rattle.map_defs.specs.Kind.{beta, inverse}
use Rattle.map_defs.specs.Links.{Links}
use Rattle.map_defs.specs.Laws.{Laws}
use Rattle.map_defs.specs.Edits.{Change}
use Rattle.link_laws.proofs.Basics.{inverse_twice}
use Rattle.link_laws.proofs.Walking.{walk_one}
use Rattle.cell_edit.specs.Writing.{WritesEntries, Appends}
use Rattle.cell_edit.proofs.Appending.{appends-none, each-more}
use Rattle.cell_edit.proofs.Listed.{listed-apart, taken}
use Rattle.cell_edit.proofs.Writings.{writes-one, writes-append, writes-same}
use Rattle.beta_edit.specs.Crossing.{DrawsTo}
use Rattle.beta_edit.specs.Drawing.{IsDrawnEntry, IsDartEntry, IsCellEntry}

-- the link that leads back
pub link-back : (L : Links) → Laws beta L → (s b x : ℕ) → x ≡ L s b → L s b ≢ 0 → L (inverse beta s) x ≡ b
link-back L w s b x is some = ap (L (inverse beta s)) is ∙ w.back s b some

module _ (L : Links) (beside : Option ℕ) (keys : List ℕ) (b s : ℕ) where
  -- ---- one link of a dart that ends
  -- it is free
  pub link-free : (cs : List Change) → L s b ≡ 0 → Appends L (IsDrawnEntry L beside keys b s) cs cs
  link-free cs free = appends-none L (IsDrawnEntry L beside keys b s) cs (λ d t y e. e.0 free)

  abbrev Freed : ℕ → ℕ → ℕ → Type 0
  Freed d t y = (d ≡ b) × (t ≡ s) × (y ≡ 0)

  -- it leads to a dart that ends too
  pub link-inner : (x : ℕ) (a c : List Change) → x ≡ L s b → L s b ≢ 0 → Contains keys x → c ≡ a ++ record { dart = b; link = s; old = x; new = 0 } ∷ [] → Appends L (IsDrawnEntry L beside keys b s) a c
  link-inner x a c is some has grown = (
    record { dart = b; link = s; old = x; new = 0 } ∷ [],
    grown,
    writes-same L Freed (IsDrawnEntry L beside keys b s) _ (λ d t y. ((λ o. (some, inl o)), λ e. from d t y e.1)) (writes-one L (record { dart = b; link = s; old = x; new = 0 }) is),
  )
    where
      from : (d t y : ℕ) → Freed d t y ⊎ ((d ≡ L s b) × (Contains keys d → ⊥) × (t ≡ inverse beta s) × DrawsTo L beside t keys b y) → Freed d t y
      from d t y (inl o) = o
      from d t y (inr e) = absurd (e.1 (subst (Contains keys) (is ∙ sym e.0) has))

  -- it leads to a remaining dart x, whose link that leads back is drawn to z
  pub link-outer : (x z : ℕ) (a c f : List Change) → x ≡ L s b → L s b ≢ 0 → Contains keys b → (Contains keys x → ⊥) → L (inverse beta s) x ≡ b → DrawsTo L beside (inverse beta s) keys b z
      → c ≡ a ++ record { dart = b; link = s; old = x; new = 0 } ∷ [] → f ≡ c ++ record { dart = x; link = inverse beta s; old = b; new = z } ∷ [] → Appends L (IsDrawnEntry L beside keys b s) a f
  link-outer x z a c f is some key out back walk first then = (
    record { dart = b; link = s; old = x; new = 0 } ∷ record { dart = x; link = inverse beta s; old = b; new = z } ∷ [],
    then ∙ ap (λ (cs : List Change). cs ++ record { dart = x; link = inverse beta s; old = b; new = z } ∷ []) first ∙ append_assoc a _ _,
    writes-same L (λ d t y. Freed d t y ⊎ Drawn d t y) (IsDrawnEntry L beside keys b s) _ (λ d t y. (to d t y, λ e. from d t y e.1))
        (writes-append L Freed Drawn (record { dart = b; link = s; old = x; new = 0 } ∷ []) (record { dart = x; link = inverse beta s; old = b; new = z } ∷ []) (λ d t y v e o. out (subst (Contains keys) (sym e.0 ∙ o.0) key))
        (writes-one L (record { dart = b; link = s; old = x; new = 0 }) is) (writes-one L (record { dart = x; link = inverse beta s; old = b; new = z }) (sym back))),
  )
    where
      Drawn : ℕ → ℕ → ℕ → Type 0
      Drawn d t y = (d ≡ x) × (t ≡ inverse beta s) × (y ≡ z)

      to : (d t y : ℕ) → Freed d t y ⊎ Drawn d t y → IsDrawnEntry L beside keys b s d t y
      to d t y (inl o) = (some, inl o)
      to d t y (inr o) = (some, inr (o.0 ∙ is, (λ has. out (subst (Contains keys) o.0 has)), o.1, rw (o.1, o.2) walk))

      from : (d t y : ℕ) → Freed d t y ⊎ ((d ≡ L s b) × (Contains keys d → ⊥) × (t ≡ inverse beta s) × DrawsTo L beside t keys b y) → Freed d t y ⊎ Drawn d t y
      from d t y (inl o) = inl o
      from d t y (inr e) = inr (e.0 ∙ sym is, e.2, walk_one (subst (λ r. DrawsTo L beside r keys b y) e.2 e.3) walk)

-- ---- one entry more
module _ (L : Links) (beside : Option ℕ) (keys : List ℕ) where
  -- the entries of two links of one dart stand at places of their own
  links-apart : (b s u d t y z : ℕ) → Contains keys b → s ≢ u → IsDrawnEntry L beside keys b s d t y → IsDrawnEntry L beside keys b u d t z → ⊥
  links-apart b s u d t y z key other (some, inl e) (some', inl f) = other (sym e.1 ∙ f.1)
  links-apart b s u d t y z key other (some, inl e) (some', inr f) = f.1 (subst (Contains keys) (sym e.0) key)
  links-apart b s u d t y z key other (some, inr e) (some', inl f) = e.1 (subst (Contains keys) (sym f.0) key)
  links-apart b s u d t y z key other (some, inr e) (some', inr f) = other (sym (inverse_twice beta s) ∙ ap (inverse beta) (sym e.2 ∙ f.2) ∙ inverse_twice beta u)

  -- and so do those of two darts
  darts-apart : Laws beta L → (m b x d t y z : ℕ) → Contains keys b → Contains keys x → b ≢ x → IsDartEntry L beside keys m b d t y → IsDartEntry L beside keys m x d t z → ⊥
  darts-apart w m b x d t y z key key' other (s, low, (some, inl e)) (u, low', (some', inl f)) = other (sym e.0 ∙ f.0)
  darts-apart w m b x d t y z key key' other (s, low, (some, inl e)) (u, low', (some', inr f)) = f.1 (subst (Contains keys) (sym e.0) key)
  darts-apart w m b x d t y z key key' other (s, low, (some, inr e)) (u, low', (some', inl f)) = e.1 (subst (Contains keys) (sym f.0) key')
  darts-apart w m b x d t y z key key' other (s, low, (some, inr e)) (u, low', (some', inr f)) =
      other (sym (w.back s b some) ∙ ap (L (inverse beta s)) (sym e.0) ∙ ap (λ r. L r d) (sym e.2 ∙ f.2) ∙ ap (L (inverse beta u)) f.0 ∙ w.back u x some')

  -- ---- the links of a dart, one after another
  pub dart-more : (b m : ℕ) (a c f : List Change) → Contains keys b → Appends L (IsDartEntry L beside keys m b) a c → Appends L (IsDrawnEntry L beside keys b m) c f → Appends L (IsDartEntry L beside keys (m + 1) b) a f
  dart-more b m a c f key (first, grown, writes) (then, again, behind) = (
    first ++ then,
    again ∙ ap (λ (cs : List Change). cs ++ then) grown ∙ append_assoc a first then,
    writes-same L (λ d t y. IsDartEntry L beside keys m b d t y ⊎ IsDrawnEntry L beside keys b m d t y) (IsDartEntry L beside keys (m + 1) b) (first ++ then)
        (λ d t y. (to d t y, λ e. from d t y e (cases_lt e.0 m)))
        (writes-append L (IsDartEntry L beside keys m b) (IsDrawnEntry L beside keys b m) first then
        (λ d t y z e o. let less : e.0 ≢ m = (let h = e.1 in omega arith) in links-apart b e.0 m d t y z key less e.2 o) writes behind),
  )
    where
      to : (d t y : ℕ) → IsDartEntry L beside keys m b d t y ⊎ IsDrawnEntry L beside keys b m d t y → IsDartEntry L beside keys (m + 1) b d t y
      to d t y (inl e) = (e.0, (let h = e.1 in omega arith), e.2)
      to d t y (inr e) = (m, omega arith, e)

      from : (d t y : ℕ) (e : IsDartEntry L beside keys (m + 1) b d t y) → (e.0 < m) ⊎ (m ≤ e.0) → IsDartEntry L beside keys m b d t y ⊎ IsDrawnEntry L beside keys b m d t y
      from d t y e (inl below) = inl (e.0, below, e.2)
      from d t y e (inr above) = let same : e.0 ≡ m = (let h = e.1 in omega arith) in inr (subst (λ s. IsDrawnEntry L beside keys b s d t y) same e.2)

  -- ---- one dart after another
  pub cell-more : Laws beta L → (m q x : ℕ) (a c : List Change) → IsStrictlyIncreasing keys → q < length keys → x ≡ get_or keys q x → Contains keys x
      → WritesEntries L (IsCellEntry L beside keys m (take q keys)) a → Appends L (IsDartEntry L beside keys m x) a c → WritesEntries L (IsCellEntry L beside keys m (take (q + 1) keys)) c
  cell-more w m q x a c up low at key =
      each-more L (IsDartEntry L beside keys m) keys q x a c low at
      (λ u had d t y z e f. darts-apart w m u x d t y z (taken keys q u had) key (listed-apart keys q x u up low at had) e f)
