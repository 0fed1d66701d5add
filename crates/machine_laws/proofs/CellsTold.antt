-- It is told of each dart whether it lies in a cell: the darts and the links of rows are finitely many.
use Rattle.std.proofs.Common.{ℕ, zero, suc, ◌≡◌, ◌≢◌, ◌⊎◌, ◌+◌, ◌≤◌, ◌<◌, inl, inr, refl, sym, ap, ap₂, subst, ◌∙◌, length, Option, Some, None, arith}
use Rattle.std.proofs.lemmas.Bool.{cases_lt}
use Rattle.std.proofs.lemmas.Option.{same_Some}
use Rattle.map_defs.specs.Kind.{Kind, alpha, beta}
use Rattle.map_defs.specs.Links.{Links, HasDimension}
use Rattle.map_defs.specs.Laws.{Laws}
use Rattle.map_defs.specs.LinkWords.{LinkWord, one_link, two_links, through, through_second, inverse_word, RunsAlong, IsCellWord}
use Rattle.map_defs.specs.Cells.{InOrbit, here, onward, Leads, InCell}
use Rattle.map_defs.specs.Rows.{Rows, IsLive, links_of, IsSound}
use Rattle.map_defs.specs.Walks.{IsTold}
use Rattle.link_laws.proofs.Basics.{same_or_not, inverse_twice}
use Rattle.link_laws.proofs.Orbits.{orbit_trans}
use Rattle.link_laws.proofs.RowFacts.{rows_dimension}
use Rattle.edit_laws.proofs.RowWrites.{live-within}
use Rattle.value_laws.proofs.Rising.{find_least}

either-told : {A B : Type 0} → A ⊎ (A → ⊥) → B ⊎ (B → ⊥) → (A ⊎ B) ⊎ (A ⊎ B → ⊥)
either-told (inl a) told = inl (inl a)
either-told (inr n) (inl b) = inl (inr b)
either-told (inr n) (inr m) = inr (λ h. elim h [ inl a ↦ n a | inr b ↦ m b ])

both-told : {A B : Type 0} → A ⊎ (A → ⊥) → B ⊎ (B → ⊥) → (A × B) ⊎ (A × B → ⊥)
both-told (inl a) (inl b) = inl (a, b)
both-told (inl a) (inr m) = inr (λ h. m h.1)
both-told (inr n) told = inr (λ h. n h.0)

-- of numbers below a bound
some-told : (P : ℕ → Type 0) → IsTold P → (top : ℕ) → ((x : ℕ) → P x → x < top) → ((x : ℕ) × P x) ⊎ ((x : ℕ) × P x → ⊥)
some-told P told top below = elim (find_least P told top) [ inl h ↦ inl (h.0, h.1) | inr n ↦ inr (λ h. n h.0 (below h.0 h.1) h.1) ]

-- steps lead from x to y, and between they pass numbers below k alone
abbrev Over : (ℕ → ℕ → Type 0) → ℕ → ℕ → ℕ → Type 0
Over Step zero x y = (x ≡ y) ⊎ Step x y
Over Step (suc k) x y = Over Step k x y ⊎ (Over Step k x k × Over Step k k y)

module _ (Step : ℕ → ℕ → Type 0) where
  over-told : ((x y : ℕ) → Step x y ⊎ (Step x y → ⊥)) → (k x y : ℕ) → Over Step k x y ⊎ (Over Step k x y → ⊥)
  over-told told zero x y = either-told (same_or_not x y) (told x y)
  over-told told (suc k) x y = either-told (over-told told k x y) (both-told (over-told told k x k) (over-told told k k y))

  over-orbit : (k x y : ℕ) → Over Step k x y → InOrbit Step x y
  over-orbit zero x y (inl e) = subst (InOrbit Step x) e here
  over-orbit zero x y (inr s) = onward here s
  over-orbit (suc k) x y (inl o) = over-orbit k x y o
  over-orbit (suc k) x y (inr (p, q)) = orbit_trans Step x k y (over-orbit k x k p) (over-orbit k k y q)

  over-here : (k x : ℕ) → Over Step k x x
  over-here zero x = inl refl
  over-here (suc k) x = inl (over-here k x)

  over-step : (k x y : ℕ) → Step x y → Over Step k x y
  over-step zero x y s = inr s
  over-step (suc k) x y s = inl (over-step k x y s)

  over-to : (k x : ℕ) → Over Step (suc k) x k → Over Step k x k
  over-to k x (inl o) = o
  over-to k x (inr (p, q)) = p

  over-from : (k y : ℕ) → Over Step (suc k) k y → Over Step k k y
  over-from k y (inl o) = o
  over-from k y (inr (p, q)) = q

  over-join : (k x m y : ℕ) → ((u v : ℕ) → Over Step k u m → Over Step k m v → Over Step k u v) → Over Step (suc k) x m → Over Step (suc k) m y → Over Step (suc k) x y
  over-join k x m y join (inl p) (inl q) = inl (join x y p q)
  over-join k x m y join (inl p) (inr (q, r)) = inr (join x k p q, r)
  over-join k x m y join (inr (p, q)) (inl r) = inr (p, join k y q r)
  over-join k x m y join (inr (p, q)) (inr (r, s)) = inr (p, s)

  over-trans : (k x m y : ℕ) → m < k → Over Step k x m → Over Step k m y → Over Step k x y
  over-trans zero x m y h p q = absurd (omega arith)
  over-trans (suc k) x m y h p q = elim (same_or_not m k) [
    | inl e ↦ inr (
      over-to k x (subst (λ (n : ℕ). Over Step (suc k) x n) e p),
      over-from k y (subst (λ (n : ℕ). Over Step (suc k) n y) e q),
    )
    | inr n ↦ over-join k x m y (λ u v. over-trans k u m v (omega arith)) p q
  ]

  module _ (top : ℕ) (below : (x y : ℕ) → Step x y → y < top) where
    over-next : (d x y : ℕ) → InOrbit Step d x → Over Step top d x → Step x y → Over Step top d y
    over-next d x y here p s = over-step top d y s
    over-next d x y (onward {x = z} o r) p s = over-trans top d x y (below z x r) p (over-step top x y s)

    orbit-over : (d y : ℕ) → InOrbit Step d y → Over Step top d y
    orbit-over d y here = over-here top d
    orbit-over d y (onward {x = x} o s) = over-next d x y o (orbit-over d x o) s

    orbit-told : ((x y : ℕ) → Step x y ⊎ (Step x y → ⊥)) → (d : ℕ) → IsTold (InOrbit Step d)
    orbit-told told d y = elim (over-told told top d y) [ inl o ↦ inl (over-orbit top d y o) | inr n ↦ inr (λ h. n (orbit-over d y h)) ]

-- whether a word is one of those along which a cell runs
abbrev word : ℕ → Option ℕ → LinkWord
word f s = record { first = f; second = s }

first-is : {v w : LinkWord} → v ≡ w → v.first ≡ w.first
first-is e = ap (λ (w : LinkWord). w.first) e

second-is : {v w : LinkWord} → v ≡ w → v.second ≡ w.second
second-is e = ap (λ (w : LinkWord). w.second) e

runs-told : (k : Kind) (i f : ℕ) (s : Option ℕ) → RunsAlong k i (word f s) ⊎ (RunsAlong k i (word f s) → ⊥)
runs-told alpha i f None = elim (same_or_not f i) [ inl e ↦ inr (λ r. r.1 (sym (first-is r.2) ∙ e)) | inr n ↦ inl (f, n, refl) ]
runs-told alpha i f (Some g) = inr (λ r. let e = second-is r.2 in cc (e))
runs-told beta zero f None = inr (λ r. let e = second-is r.4 in cc (e))
runs-told beta zero f (Some g) = elim (cases_lt g f) [
  | inl low ↦ elim (cases_lt 0 g) [
    | inl some ↦ inl (g, f, omega arith, low, refl)
    | inr none ↦ inr (λ r. let e : g ≡ r.0 = same_Some g r.0 (second-is r.4) in let h : 1 ≤ r.0 = r.2 in omega arith)
  ]
  | inr high ↦ inr (λ r.
      let e : g ≡ r.0 = same_Some g r.0 (second-is r.4) in
      let t : f ≡ r.1 = first-is r.4 in
      let h : r.0 < r.1 = r.3 in
      omega arith)
]
runs-told beta (suc zero) f None = elim (cases_lt f 2) [
  | inl low ↦ inr (λ r. let e : f ≡ r.0 = first-is r.2 in let h : 2 ≤ r.0 = r.1 in omega arith)
  | inr high ↦ inl (f, high, refl)
]
runs-told beta (suc zero) f (Some g) = inr (λ r. let e = second-is r.2 in cc (e))
runs-told beta (suc (suc i)) f None = elim (cases_lt f 1) [
  | inl low ↦ inr (λ r. let e : f ≡ r.0 = first-is r.3 in let h : 1 ≤ r.0 = r.1 in omega arith)
  | inr some ↦ elim (same_or_not f (suc (suc i))) [ inl e ↦ inr (λ r. r.2 (sym (first-is r.3) ∙ e)) | inr n ↦ inl (f, some, n, refl) ]
]
runs-told beta (suc (suc i)) f (Some g) = inr (λ r. let e = second-is r.3 in cc (e))

word-twice : (k : Kind) (f : ℕ) (s : Option ℕ) → word f s ≡ inverse_word k (inverse_word k (word f s))
word-twice k f None = ap one_link (sym (inverse_twice k f))
word-twice k f (Some g) = ap₂ two_links (sym (inverse_twice k f)) (sym (inverse_twice k g))

back-told : (k : Kind) (i : ℕ) (w : LinkWord) → ((v : LinkWord) × RunsAlong k i v × (w ≡ inverse_word k v)) ⊎ ((v : LinkWord) × RunsAlong k i v × (w ≡ inverse_word k v) → ⊥)
back-told k i w = elim (runs-told k i (inverse_word k w).first (inverse_word k w).second) [
  | inl r ↦ inl (inverse_word k w, r, word-twice k w.first w.second)
  | inr n ↦ inr (λ h. n (subst (RunsAlong k i) (word-twice k h.0.first h.0.second ∙ ap (inverse_word k) (sym h.2)) h.1))
]

cell_word-told : (k : Kind) (i : ℕ) (w : LinkWord) → IsCellWord k i w ⊎ (IsCellWord k i w → ⊥)
cell_word-told k i w = either-told (runs-told k i w.first w.second) (back-told k i w)

-- whether a word of a cell leads from x to y: no link above the last one leads anywhere
module _ (k : Kind) (N : Links) (n : ℕ) (nil : (t : ℕ) → N t 0 ≡ 0) (above : HasDimension n N) (i x y : ℕ) (some : y ≢ 0) where
  abbrev By : ℕ → Option ℕ → Type 0
  By f s = IsCellWord k i (word f s) × (through N (word f s) x ≡ y)

  by-told : (f : ℕ) (s : Option ℕ) → By f s ⊎ (By f s → ⊥)
  by-told f s = both-told (cell_word-told k i (word f s)) (same_or_not (through N (word f s) x) y)

  second-low : (f j : ℕ) → By f (Some j) → j < n + 1
  second-low f j b = elim (cases_lt n j) [ inl high ↦ absurd (some (sym b.1 ∙ above j (N f x) high)) | inr low ↦ omega arith ]

  first-low : (f : ℕ) → ((s : Option ℕ) × By f s) → f < n + 1
  first-low f h = elim (cases_lt n f) [ inl high ↦ absurd (go h.0 (above f x high) h.1.1) | inr low ↦ omega arith ]
    where
      go : (s : Option ℕ) → N f x ≡ 0 → through_second N s (N f x) ≡ y → ⊥
      go None e l = some (sym l ∙ e)
      go (Some j) e l = some (sym l ∙ (ap (N j) e ∙ nil j))

  second-told : (f : ℕ) → ((s : Option ℕ) × By f s) ⊎ ((s : Option ℕ) × By f s → ⊥)
  second-told f = go (by-told f None) (some-told (λ j. By f (Some j)) (λ j. by-told f (Some j)) (n + 1) (second-low f))
    where
      none : (By f None → ⊥) → ((j : ℕ) × By f (Some j) → ⊥) → (s : Option ℕ) → By f s → ⊥
      none p q None b = p b
      none p q (Some j) b = q (j, b)

      go : By f None ⊎ (By f None → ⊥) → ((j : ℕ) × By f (Some j)) ⊎ ((j : ℕ) × By f (Some j) → ⊥) → ((s : Option ℕ) × By f s) ⊎ ((s : Option ℕ) × By f s → ⊥)
      go (inl b) more = inl (None, b)
      go (inr p) (inl h) = inl (Some h.0, h.1)
      go (inr p) (inr q) = inr (λ h. none p q h.0 h.1)

  led-told : Leads N (IsCellWord k i) x y ⊎ (Leads N (IsCellWord k i) x y → ⊥)
  led-told = elim (some-told (λ f. (s : Option ℕ) × By f s) second-told (n + 1) first-low) [
    | inl h ↦ inl (word h.0 h.1.0, h.1.1.0, h.1.1.1, some)
    | inr m ↦ inr (λ h. m (h.0.first, (h.0.second, (h.1, h.2))))
  ]

step-told : (k : Kind) (N : Links) (n : ℕ) → ((t : ℕ) → N t 0 ≡ 0) → HasDimension n N → (i x y : ℕ) → Leads N (IsCellWord k i) x y ⊎ (Leads N (IsCellWord k i) x y → ⊥)
step-told k N n nil above i x y = elim (same_or_not y 0) [ inl none ↦ inr (λ h. h.3 none) | inr some ↦ led-told k N n nil above i x y some ]

led-within : (k : Kind) (n : ℕ) (rows : Rows) → IsSound k n rows → (i x y : ℕ) → Leads (links_of rows) (IsCellWord k i) x y → y < length rows
led-within k n rows sound i x y step = go step.0.first step.0.second step.2
  where
    linked : (t z : ℕ) → links_of rows t z ≡ y → y < length rows
    linked t z e = live-within rows y (subst (IsLive rows) e (sound.live t z (λ none. step.3 (sym e ∙ none))))

    go : (f : ℕ) (s : Option ℕ) → through_second (links_of rows) s (links_of rows f x) ≡ y → y < length rows
    go f None e = linked f x e
    go f (Some j) e = linked j (links_of rows f x) e

pub cell-told : (k : Kind) (n : ℕ) (rows : Rows) → IsSound k n rows → Laws k (links_of rows) → (i d : ℕ) → IsTold (InCell k (links_of rows) i d)
cell-told k n rows sound laws i d =
    orbit-told (Leads (links_of rows) (IsCellWord k i)) (length rows) (led-within k n rows sound i)
    (step-told k (links_of rows) n laws.nil (rows_dimension n rows sound.wide) i) d
