-- Sums over lists of numbers: the order does not matter, and a sum of sums is the sum over the joined list.
use Rattle.std.proofs.Common.{ℕ, zero, suc, ◌≡◌, ◌≢◌, ◌⊎◌, ◌<◌, ◌+ℤ◌, ℤ, pos, inl, inr, refl, sym, ap, ap₂, subst, ◌∙◌, List, [], ◌∷◌, ◌++◌, length, Contains, slice_index, arith}
use Rattle.std.specs.List.Sorted.{IsStrictlyIncreasing}
use Rattle.std.proofs.lemmas.Int.{ints}
use Rattle.std.proofs.lemmas.List.Elements.{Contains-append_left, Contains-append_right, Contains-append_cases}
use Rattle.map_defs.specs.Values.{total}
use Rattle.link_laws.proofs.Basics.{same_or_not}
use Rattle.value_laws.proofs.Rising.{held_case, held_first, held_later, held_none, Rises, rising_rises, first_below, rest_rises}

-- what f gives for the numbers of a list, added up
abbrev pub added : (ℕ → ℤ) → List ℕ → ℤ
added f [] = pos 0
added f (x ∷ xs) = f x +ℤ added f xs

pub added_alike : (f g : ℕ → ℤ) (xs : List ℕ) → ((x : ℕ) → Contains xs x → f x ≡ g x) → added f xs ≡ added g xs
added_alike f g [] h = refl
added_alike f g (x ∷ xs) h = ap₂ (◌+ℤ◌) (h x (held_first x xs)) (added_alike f g xs (λ y c. h y (held_later x xs y c)))

none_first : (s : ℤ) → s ≡ pos 0 +ℤ s
none_first s = omega (arith, ints)

grouped : (x s t : ℤ) → x +ℤ (s +ℤ t) ≡ (x +ℤ s) +ℤ t
grouped x s t = omega (arith, ints)

swapped : (x y s : ℤ) → x +ℤ (y +ℤ s) ≡ y +ℤ (x +ℤ s)
swapped x y s = omega (arith, ints)

added_joined : (f : ℕ → ℤ) (xs ys : List ℕ) → added f (xs ++ ys) ≡ added f xs +ℤ added f ys
added_joined f [] ys = none_first (added f ys)
added_joined f (x ∷ xs) ys = ap (λ s. f x +ℤ s) (added_joined f xs ys) ∙ grouped (f x) (added f xs) (added f ys)

-- the lists of the numbers of a list, joined
abbrev pub joined : (ℕ → List ℕ) → List ℕ → List ℕ
joined P [] = []
joined P (c ∷ cs) = P c ++ joined P cs

pub added_of_joined : (f : ℕ → ℤ) (P : ℕ → List ℕ) (cs : List ℕ) → added f (joined P cs) ≡ added (λ c. added f (P c)) cs
added_of_joined f P [] = refl
added_of_joined f P (c ∷ cs) = added_joined f (P c) (joined P cs) ∙ ap (λ s. added f (P c) +ℤ s) (added_of_joined f P cs)

-- the same by places, from the first on
total_alike : (n : ℕ) (f g : ℕ → ℤ) → ((p : ℕ) → p < n → f p ≡ g p) → total n f ≡ total n g
total_alike zero f g h = refl
total_alike (suc n) f g h = ap₂ (◌+ℤ◌) (total_alike n f g (λ p l. h p (omega arith))) (h n (omega arith))

pub total_first : (n : ℕ) (f : ℕ → ℤ) → total (suc n) f ≡ f 0 +ℤ total n (λ p. f (suc p))
total_first zero f = zero_last (f 0)
  where
    zero_last : (x : ℤ) → pos 0 +ℤ x ≡ x +ℤ pos 0
    zero_last x = omega (arith, ints)
total_first (suc n) f = ap (λ s. s +ℤ f (suc n)) (total_first n f) ∙ sym (grouped (f 0) (total n (λ p. f (suc p))) (f (suc n)))

pub added_by_places : (f g : ℕ → ℤ) (xs : List ℕ) → ((p : ℕ) → p < length xs → f (slice_index xs p) ≡ g p) → added f xs ≡ total (length xs) g
added_by_places f g [] h = refl
added_by_places f g (x ∷ xs) h =
    ap₂ (◌+ℤ◌) (h 0 (omega arith)) (added_by_places f (λ p. g (suc p)) xs (λ p l. h (suc p) (omega arith))) ∙ sym (total_first (length xs) g)

-- no number stands twice in the list
pub data IsApart : List ℕ → Type 0 where
  nothing : IsApart []
  further : {x : ℕ} {xs : List ℕ} → (Contains xs x → ⊥) → IsApart xs → IsApart (x ∷ xs)

-- a list that holds x once, with x taken out
record IsWithout (f : ℕ → ℤ) (x : ℕ) (ys : List ℕ) : Type 0 where
  rest : List ℕ
  sum : added f ys ≡ f x +ℤ added f rest
  apart : IsApart rest
  inside : (m : ℕ) → Contains rest m → Contains ys m
  other : (m : ℕ) → Contains ys m → x ≢ m → Contains rest m
  gone : Contains rest x → ⊥

taken_out : (f : ℕ → ℤ) (x : ℕ) (ys : List ℕ) → IsApart ys → Contains ys x → IsWithout f x ys
taken_out f x [] nothing h = absurd (held_none x h)
taken_out f x (y ∷ ys) (further n a) h = go (held_case y ys x h) (λ c. taken_out f x ys a c)
  where
    go : (y ≡ x) ⊎ Contains ys x → (Contains ys x → IsWithout f x ys) → IsWithout f x (y ∷ ys)
    go (inl e) next = record {
      rest = ys;
      sum = ap (λ z. f z +ℤ added f ys) e;
      apart = a;
      inside = λ m c. held_later y ys m c;
      other = λ m c d. elim (held_case y ys m c) [ inl z ↦ absurd (d (sym e ∙ z)) | inr r ↦ r ];
      gone = λ c. n (subst (Contains ys) (sym e) c);
    }
    go (inr c) next =
        let t = next c in
        record {
          rest = y ∷ t.rest;
          sum = ap (λ s. f y +ℤ s) t.sum ∙ swapped (f y) (f x) (added f t.rest);
          apart = further (λ r. n (t.inside y r)) t.apart;
          inside = λ m r. elim (held_case y t.rest m r) [ inl z ↦ subst (Contains (y ∷ ys)) z (held_first y ys) | inr q ↦ held_later y ys m (t.inside m q) ];
          other = λ m r d. elim (held_case y ys m r) [ inl z ↦ subst (Contains (y ∷ t.rest)) z (held_first y t.rest) | inr q ↦ held_later y t.rest m (t.other m q d) ];
          gone = λ r. elim (held_case y t.rest x r) [ inl z ↦ n (subst (Contains ys) (sym z) c) | inr q ↦ t.gone q ];
        }

-- two lists that hold the same numbers, each once, have the same sum
pub added_in_any_order : (f : ℕ → ℤ) (xs ys : List ℕ) → IsApart xs → IsApart ys → ((m : ℕ) → Contains xs m → Contains ys m) → ((m : ℕ) → Contains ys m → Contains xs m) → added f xs ≡ added f ys
added_in_any_order f [] [] a b to from = refl
added_in_any_order f [] (y ∷ ys) a b to from = absurd (held_none y (from y (held_first y ys)))
added_in_any_order f (x ∷ xs) ys (further n a) b to from =
    let t = taken_out f x ys b (to x (held_first x xs)) in
    let over : (m : ℕ) → Contains xs m → Contains t.rest m = λ m h. t.other m (to m (held_later x xs m h)) (λ e. n (subst (Contains xs) (sym e) h)) in
    let back : (m : ℕ) → Contains t.rest m → Contains xs m = λ m h. elim (held_case x xs m (from m (t.inside m h))) [ inl e ↦ absurd (t.gone (subst (Contains t.rest) (sym e) h)) | inr r ↦ r ] in
    ap (λ s. f x +ℤ s) (added_in_any_order f xs t.rest a t.apart over back) ∙ sym t.sum

appended_apart : (xs ys : List ℕ) → IsApart xs → IsApart ys → ((m : ℕ) → Contains xs m → Contains ys m → ⊥) → IsApart (xs ++ ys)
appended_apart [] ys a b n = b
appended_apart (x ∷ xs) ys (further m a) b n = further not_again (appended_apart xs ys a b (λ z c. n z (held_later x xs z c)))
  where
    not_again : Contains (xs ++ ys) x → ⊥
    not_again c = elim (Contains-append_cases xs ys x c) [ inl h ↦ m h | inr h ↦ n x (held_first x xs) h ]

pub held_in_joined : (P : ℕ → List ℕ) (cs : List ℕ) (m : ℕ) → Contains (joined P cs) m → (c : ℕ) × Contains cs c × Contains (P c) m
held_in_joined P [] m h = absurd (held_none m h)
held_in_joined P (c ∷ cs) m h = go (Contains-append_cases (P c) (joined P cs) m h) (λ q. held_in_joined P cs m q)
  where
    go : Contains (P c) m ⊎ Contains (joined P cs) m → (Contains (joined P cs) m → (e : ℕ) × Contains cs e × Contains (P e) m) → (e : ℕ) × Contains (c ∷ cs) e × Contains (P e) m
    go (inl q) next = (c, held_first c cs, q)
    go (inr q) next = let r = next q in (r.0, held_later c cs r.0 r.1, r.2)

pub joined_holds : (P : ℕ → List ℕ) (cs : List ℕ) (c m : ℕ) → Contains cs c → Contains (P c) m → Contains (joined P cs) m
joined_holds P [] c m h q = absurd (held_none c h)
joined_holds P (e ∷ cs) c m h q = go (held_case e cs c h) (λ r. joined_holds P cs c m r q)
  where
    go : (e ≡ c) ⊎ Contains cs c → (Contains cs c → Contains (joined P cs) m) → Contains (P e ++ joined P cs) m
    go (inl z) next = Contains-append_left (P e) (joined P cs) m (subst (λ d. Contains (P d) m) (sym z) q)
    go (inr r) next = Contains-append_right (P e) (joined P cs) m (next r)

-- the lists of the numbers of a list have no number in common, and none holds one twice
pub joined_apart : (P : ℕ → List ℕ) (cs : List ℕ) → IsApart cs → ((c : ℕ) → Contains cs c → IsApart (P c)) → ((c e m : ℕ) → Contains cs c → Contains cs e → Contains (P c) m → Contains (P e) m → c ≡ e) → IsApart (joined P cs)
joined_apart P [] a each one = nothing
joined_apart P (c ∷ cs) (further n a) each one =
    appended_apart (P c) (joined P cs) (each c (held_first c cs))
    (joined_apart P cs a (λ e h. each e (held_later c cs e h)) (λ d e m h g. one d e m (held_later c cs d h) (held_later c cs e g)))
    (λ m h g. let r = held_in_joined P cs m g in n (subst (Contains cs) (sym (one c r.0 m (held_first c cs) (held_later c cs r.0 r.1) h r.2)) r.1))

pub rising_apart : (xs : List ℕ) → IsStrictlyIncreasing xs → IsApart xs
rising_apart xs r = go xs (rising_rises xs r)
  where
    go : (ys : List ℕ) → Rises ys → IsApart ys
    go [] p = nothing
    go (y ∷ ys) p = further (λ c. let l : y < y = first_below y ys y p c in omega arith) (go ys (rest_rises y ys p))

-- it is told what a list holds
pub told_held : (xs : List ℕ) (m : ℕ) → Contains xs m ⊎ (Contains xs m → ⊥)
told_held [] m = inr (held_none m)
told_held (x ∷ xs) m = go (same_or_not x m) (told_held xs m)
  where
    go : (x ≡ m) ⊎ (x ≢ m) → Contains xs m ⊎ (Contains xs m → ⊥) → Contains (x ∷ xs) m ⊎ (Contains (x ∷ xs) m → ⊥)
    go (inl e) t = inl (subst (Contains (x ∷ xs)) e (held_first x xs))
    go (inr d) (inl c) = inl (held_later x xs m c)
    go (inr d) (inr n) = inr (λ h. elim (held_case x xs m h) [ inl e ↦ d e | inr c ↦ n c ])
