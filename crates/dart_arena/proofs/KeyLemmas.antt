-- The keys of darts whose rows stand in the order of their numbers.
use Rattle.std.proofs.Common.{◌≡◌, ℕ, zero, suc, ◌+◌, ◌≤◌, Bool, true, false, cond, List, [], ◌∷◌, ◌++◌, length, get_or, set, take, refl, ap, arith}
use Rattle.dart_arena.specs.declared.places.Places.{Places}
use Rattle.dart_arena.specs.Layout.{is_in_order, keys_of, keys_from, key_at}

pub keys-length : (n : ℕ) (bs : List Bool) → length (keys_from n bs) ≡ length bs
keys-length n [] = refl
keys-length n (b ∷ bs) = omega (arith, keys-length (suc n) bs)

pub keys-at : (n : ℕ) (bs : List Bool) (p : ℕ) → get_or (keys_from n bs) p 0 ≡ cond (get_or bs p false) (suc (n + p)) 0
keys-at n [] p = refl
keys-at n (b ∷ bs) zero = let e : n + 0 ≡ n = omega arith in rw e refl
keys-at n (b ∷ bs) (suc p) = let e : n + suc p ≡ suc n + p = omega arith in rw e (keys-at (suc n) bs p)

pub keys-set : (n : ℕ) (bs : List Bool) (p : ℕ) (b : Bool) → keys_from n (set bs p b) ≡ set (keys_from n bs) p (cond b (suc (n + p)) 0)
keys-set n [] p b = refl
keys-set n (c ∷ bs) zero b = let e : n + 0 ≡ n = omega arith in rw e refl
keys-set n (c ∷ bs) (suc p) b =
    let e : n + suc p ≡ suc n + p = omega arith in
    rw e (ap (λ (ks : List ℕ). cond c (suc n) 0 ∷ ks) (keys-set (suc n) bs p b))

pub keys-pushed : (n : ℕ) (bs : List Bool) → keys_from n (bs ++ true ∷ []) ≡ keys_from n bs ++ suc (n + length bs) ∷ []
keys-pushed n [] = let e : n + 0 ≡ n = omega arith in rw e refl
keys-pushed n (b ∷ bs) =
    let e : n + suc (length bs) ≡ suc n + length bs = omega arith in
    rw e (ap (λ (ks : List ℕ). cond b (suc n) 0 ∷ ks) (keys-pushed (suc n) bs))

pub keys-taken : (n m : ℕ) (bs : List Bool) → keys_from n (take m bs) ≡ take m (keys_from n bs)
keys-taken n zero bs = refl
keys-taken n (suc m) [] = refl
keys-taken n (suc m) (b ∷ bs) = ap (λ (ks : List ℕ). cond b (suc n) 0 ∷ ks) (keys-taken (suc n) m bs)

low-if : (b : Bool) (p : ℕ) → (let k : ℕ = cond b (suc (0 + p)) 0 in k) ≤ p + 1
low-if true p = omega arith
low-if false p = omega arith

-- while no keys are kept, none is greater than its place's own
pub key-low : (places : Places) (p : ℕ) → is_in_order places ≡ true → key_at (keys_of places) p ≤ p + 1
key-low places p h = rw (h, keys-at 0 places.live.items p) (low-if (get_or places.live.items p false) p)
