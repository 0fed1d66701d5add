-- An edge in a face keeps the laws of a combinatorial map.
use Rattle.std.proofs.Common.{ℕ, ◌≡◌, ◌≢◌, ◌≤◌, refl, sym, ap, ⊎_elim, ◌∙◌, arith}
use Rattle.map_defs.specs.Kind.{beta}
use Rattle.map_defs.specs.Links.{Links}
use Rattle.map_defs.specs.Laws.{Laws}
use Rattle.map_defs.specs.Births.{IsFresh}
use Rattle.map_defs.specs.Insertion.{IsCut}
use Rattle.link_laws.proofs.Basics.{stable, same_or_not}
use Rattle.insert_laws.proofs.Fresh.{IsNew, fresh_link, fresh_old, fresh_none}
use Rattle.insert_laws.proofs.BetaParts.{onward_of}

-- what the laws ask of the ways from corner to corner
pub record IsTurning (L : Links) (Turn : ℕ → ℕ → Type 0) : Type 0 where
  pub dart : (x y : ℕ) → Turn x y → x ≢ 0
  pub begins : (x y : ℕ) → Turn x y → L 0 x ≢ 0
  pub both : (x y : ℕ) → Turn x y → Turn y x
  pub moves : (x y : ℕ) → Turn x y → y ≢ x
  pub moves_along : (x y j : ℕ) → Turn x y → 3 ≤ j → L j (L 0 y) ≢ x
  pub across : (x y j : ℕ) → Turn x y → 3 ≤ j → L j (L 0 x) ≢ 0 → Turn (L j (L 0 x)) (L j (L 0 y))
  pub even : (x y j : ℕ) → Turn x y → 3 ≤ j → L j (L 0 x) ≡ 0 → L j (L 0 y) ≡ 0

-- the corner darts
abbrev pub IsCorner : (ℕ → ℕ → Type 0) → ℕ → Type 0
IsCorner Turn x = (y : ℕ) × Turn x y

-- z stands before a corner
abbrev pub ComesBefore : Links → (ℕ → ℕ → Type 0) → ℕ → Type 0
ComesBefore L Turn z = (c : ℕ) × (y : ℕ) × Turn c y × (z ≡ L 0 c)

-- before the copy of a corner at link j stands link j of its dart
pub before_copy : (L : Links) → Laws beta L → (j x : ℕ) → 3 ≤ j → L 0 x ≢ 0 → L 0 (L j (L 0 x)) ≡ L j x
before_copy L w j x l h = onward_of L w j (L 0 x) l ∙ ap (L j) (w.back 0 x h)

module _ (L : Links) (w : Laws beta L) (Turn : ℕ → ℕ → Type 0) (turn : IsTurning L Turn) (star : ℕ → ℕ) (fresh : IsFresh L (IsCorner Turn) star) (N : Links) (s : IsCut Turn star L N) where
  pub high_out : (t z : ℕ) → 2 ≤ t → (IsNew (IsCorner Turn) star z → ⊥) → N t z ≡ L t z
  high_out t z l n = s.kept z t (omega arith) (λ c y p e. absurd (omega arith)) (λ c y p e. n (c, (y, p), e))

  pub one_out : (z : ℕ) → (IsNew (IsCorner Turn) star z → ⊥) → (ComesBefore L Turn z → ⊥) → N 1 z ≡ L 1 z
  one_out z n m = s.kept z 1 (omega arith) (λ c y p e q. m (c, y, p, q)) (λ c y p e. n (c, (y, p), e))

  pub not_none : IsNew (IsCorner Turn) star 0 → ⊥
  not_none = fresh_none beta L w (IsCorner Turn) star fresh

  pub not_link : (t z : ℕ) → IsNew (IsCorner Turn) star (L t z) → ⊥
  not_link = fresh_link beta L w (IsCorner Turn) star fresh

  pub not_corner : (x y : ℕ) → Turn x y → IsNew (IsCorner Turn) star x → ⊥
  not_corner x y p = fresh_old beta L w (IsCorner Turn) star fresh x (y, p)

  pub nil : (t : ℕ) → 1 ≤ t → N t 0 ≡ 0
  nil t l = s.kept 0 t l (λ c y p e q. turn.begins c y p (sym q)) (λ c y p e. not_none (c, (y, p), e)) ∙ w.nil t

  -- link 0: into the end of a new dart, out of a new dart, and elsewhere as before
  pub zero_in : (u y : ℕ) → Turn u y → N 0 u ≡ star y
  zero_in u y p = let q : Turn y u = turn.both u y p in
      (s.turned.back (star y) u (fresh.dart y (u, q)) (turn.dart u y p)).0 (s.onward y u q)

  pub zero_new : (x y : ℕ) → Turn x y → N 0 (star x) ≡ L 0 x
  zero_new x y p = (s.turned.back (L 0 x) (star x) (turn.begins x y p) (fresh.dart x (y, p))).0 (s.into x y p)

  pub zero_free : (u b : ℕ) → (IsNew (IsCorner Turn) star u → ⊥) → (IsCorner Turn u → ⊥) → L 0 u ≡ 0 → u ≢ 0 → b ≢ 0 → N 1 b ≡ u → ⊥
  zero_free u b old out z hu hb e =
      let new_b : IsNew (IsCorner Turn) star b → ⊥ = λ (x, (y, p), q).
      let a : N 1 (star x) ≡ y = s.onward x y p in let g : y ≡ u = cc in out (x, rw g at (turn.both x y p)) in
      let before_b : ComesBefore L Turn b → ⊥ = λ (c, y, p, q). let a : N 1 (L 0 c) ≡ star c = s.into c y p in old (c, (y, p), (let g : u ≡ star c = cc in g)) in
      let a : L 1 b ≡ u = sym (one_out b new_b before_b) ∙ e in
      let g : L 0 (L 1 b) ≡ b = w.back 1 b (λ o. hu (sym a ∙ o)) in
      hb (let r : L 0 u ≡ b = cc in sym r ∙ z)

  pub zero_out : (u : ℕ) → (IsNew (IsCorner Turn) star u → ⊥) → (IsCorner Turn u → ⊥) → N 0 u ≡ L 0 u
  zero_out u old out = ⊎_elim
      (λ (z : u ≡ 0). let a : N 0 0 ≡ 0 = s.turned.nothing in cc (w.nil 0))
      (λ (hu : u ≢ 0). ⊎_elim
      (λ (z : L 0 u ≡ 0). stable (N 0 u) 0 (λ n. zero_free u (N 0 u) old out z hu n ((s.turned.back (N 0 u) u n hu).1 refl)) ∙ sym z)
      (λ (n : L 0 u ≢ 0).
      let g : L 1 (L 0 u) ≡ u = w.back 0 u n in
      let b : ComesBefore L Turn (L 0 u) → ⊥ = λ (c, y, p, q).
      let h : L 1 (L 0 c) ≡ c = w.back 0 c (turn.begins c y p) in let r : c ≡ u = cc in out (y, rw r at p) in
      (s.turned.back (L 0 u) u n hu).0 (one_out (L 0 u) (not_link 0 u) b ∙ g))
      (same_or_not (L 0 u) 0))
      (same_or_not u 0)
