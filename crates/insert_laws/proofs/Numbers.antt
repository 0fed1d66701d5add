-- New darts that are numbered on from made are fresh.
use Rattle.std.proofs.Common.{ℕ, ◌≡◌, ◌≢◌, ◌+◌, ◌-◌, ◌<◌, ◌≤◌, sym, ap, ◌∙◌, arith, List, length, slice_index, Contains}
use Rattle.map_defs.specs.Links.{Links}
use Rattle.map_defs.specs.Births.{IsFresh, IsNumbered}
use Rattle.link_laws.proofs.Basics.{stable}
use Rattle.insert_laws.proofs.Paths.{held_is, held_at}

module _ (K : ℕ → Type 0) (keys : List ℕ) (made : ℕ) (star : ℕ → ℕ) (m : IsNumbered K keys made star) where
  -- each dart of K has a place in the keys, and the number that belongs to it
  pub numbered_at : (x : ℕ) → K x → (p : ℕ) × (p < length keys) × (slice_index keys p ≡ x) × (star x ≡ made + 1 + p)
  numbered_at x h =
      let c : Contains keys x = (m.members x).1 h in
      let e : slice_index keys c.0 ≡ x = held_is keys x c in
      (c.0, c.1, e, ap star (sym e) ∙ m.numbers c.0 c.1)

  pub numbered_above : (x : ℕ) → K x → made < star x
  numbered_above x h = let q : (p : ℕ) × (p < length keys) × (slice_index keys p ≡ x) × (star x ≡ made + 1 + p) = numbered_at x h in
      let e : star x ≡ made + 1 + q.0 = q.3 in omega arith

  pub numbered_upto : (x : ℕ) → K x → star x ≤ made + length keys
  numbered_upto x h = let q : (p : ℕ) × (p < length keys) × (slice_index keys p ≡ x) × (star x ≡ made + 1 + p) = numbered_at x h in
      let e : star x ≡ made + 1 + q.0 = q.3 in let l : q.0 < length keys = q.1 in omega arith

  pub numbered_one : (x y : ℕ) → K x → K y → star x ≡ star y → x ≡ y
  numbered_one x y h g e =
      let a : (p : ℕ) × (p < length keys) × (slice_index keys p ≡ x) × (star x ≡ made + 1 + p) = numbered_at x h in
      let b : (p : ℕ) × (p < length keys) × (slice_index keys p ≡ y) × (star y ≡ made + 1 + p) = numbered_at y g in
      let u : star x ≡ made + 1 + a.0 = a.3 in
      let v : star y ≡ made + 1 + b.0 = b.3 in
      let same : a.0 ≡ b.0 = omega arith in
      sym a.2 ∙ (ap (slice_index keys) same ∙ b.2)

  -- each number above made, as far as there are keys, is the new dart of one of K
  pub numbered_all : (z : ℕ) → made < z → z ≤ made + length keys → (x : ℕ) × K x × (z ≡ star x)
  numbered_all z l u =
      let p : ℕ = z - (made + 1) in
      let b : p < length keys = omega arith in
      (slice_index keys p, (m.members (slice_index keys p)).0 (held_at keys p b), (let e : star (slice_index keys p) ≡ made + 1 + p = m.numbers p b in omega arith))

  pub numbered_fresh : (L : Links) → ((x : ℕ) → K x → x ≤ made) → ((t x : ℕ) → L t x ≢ 0 → x ≤ made) → IsFresh L K star
  numbered_fresh L low bound = record {
    nothing = m.nothing;
    dart = λ x h e. let a : made < star x = numbered_above x h in omega arith;
    one = numbered_one;
    outside = λ x h g. let a : made < star x = numbered_above x h in let b : star x ≤ made = low (star x) g in omega arith;
    unlinked = λ t x h. stable (L t (star x)) 0 (λ n. let a : made < star x = numbered_above x h in let b : star x ≤ made = bound t (star x) n in omega arith);
  }
