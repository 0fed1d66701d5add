-- The names of rules, by their places.
use Rattle.std.proofs.Common.{◌≡◌, ℕ, zero, suc, ◌+◌, ◌<◌, ◌||◌, Bool, true, false, cond, List, [], ◌∷◌, length, get_or, take, map, Option, Some, None, refl, sym, ap, subst, ◌∙◌, inl, inr, arith}
use Rattle.std.specs.Str.{bytes_eq}
use Rattle.std.specs.Option.{is_some}
use Rattle.std.proofs.lemmas.Bool.{false≢true, cases_lt}
use Rattle.std.proofs.lemmas.List.{length-map}
use Rattle.std.proofs.lemmas.List.Folds.{list_any_more, list_any_at}
use Rattle.std.proofs.lemmas.Slice.Eq.{bytes_eq-Decides}
use Rattle.map_defs.specs.RuleNames.{IsFreeName}
use Rattle.map_defs.specs.Values.{Meaning, is_among}
use Rattle.hook_book.specs.Books.{AreFine, IsPlaceOf, meaning_among}
use Rattle.hook_book.specs.Faults.{IsFaultOf}
use Rattle.hook_book.specs.declared.book.BookWhat.{BookWhat}

pub same-name : (a b : List ℕ) → bytes_eq a b ≡ true → a ≡ b
same-name a b = (bytes_eq-Decides a b).0

-- unlike the one way round, unlike the other
unlike : (a b : List ℕ) → bytes_eq a b ≡ false → bytes_eq b a ≡ false
unlike a b h = at (bytes_eq b a) refl
  where
    at : (r : Bool) → bytes_eq b a ≡ r → r ≡ false
    at true is = absurd (false≢true (sym h ∙ (bytes_eq-Decides a b).1 (sym ((bytes_eq-Decides b a).0 is))))
    at false is = refl

pub among-at : (names : List (List ℕ)) (word : List ℕ) (k : ℕ) → k < length names → get_or names k [] ≡ word → is_among names word ≡ true
among-at names word k h e = list_any_at (bytes_eq word) names k [] h ((bytes_eq-Decides word (get_or names k [])).1 (sym e))

-- a name has a place where it stands among the names
pub place-known : (names : List (List ℕ)) (word : List ℕ) (o : Option ℕ) → IsPlaceOf names word o → is_some o ≡ is_among names word
place-known names word None h = sym h
place-known names word (Some k) h = sym (among-at names word k h.0 h.2)

none-first : (a b : Bool) → (a || b) ≡ false → (a ≡ false) × (b ≡ false)
none-first true b h = absurd (false≢true (sym h))
none-first false b h = (refl, h)

module _ {R : Type 0} (called : R → List ℕ) where
  pub name-at : (rules : List R) (k : ℕ) (rule : R) → k < length rules → rule ≡ get_or rules k rule → get_or (map called rules) k [] ≡ called rule
  name-at [] k rule h is = absurd (omega arith)
  name-at (x ∷ rules) zero rule h is = ap called (sym is)
  name-at (x ∷ rules) (suc k) rule h is = name-at rules k rule (omega arith) is

  pub within : (rules : List R) (k : ℕ) → k < length rules → k < length (map called rules)
  within rules k h = let long = length-map rules called in omega (arith, long, h)

  pub names-before : (rules : List R) (k : ℕ) → map called (take k rules) ≡ take k (map called rules)
  names-before rules zero = refl
  names-before [] (suc k) = refl
  names-before (x ∷ rules) (suc k) = ap (λ (names : List (List ℕ)). called x ∷ names) (names-before rules k)

  -- one more rule has another name
  pub not-among : (rules : List R) (k : ℕ) (rule : R) (word : List ℕ) → k < length rules → rule ≡ get_or rules k rule → is_among (take k (map called rules)) word ≡ false
      → bytes_eq (called rule) word ≡ false → is_among (take (k + 1) (map called rules)) word ≡ false
  not-among rules k rule word h is before other =
      let here : bytes_eq word (get_or (map called rules) k []) ≡ false = ap (λ (name : List ℕ). bytes_eq word name) (name-at rules k rule h is) ∙ unlike (called rule) word other in
      list_any_more (bytes_eq word) (map called rules) k [] (within rules k h) ∙ rw (before, here) refl

  -- one more name is fine
  pub more-fine : (rules : List R) (k : ℕ) (rule : R) → k < length rules → rule ≡ get_or rules k rule → AreFine (map called rules) k
      → IsFreeName (called rule) → is_among (map called (take k rules)) (called rule) ≡ false → AreFine (map called rules) (k + 1)
  more-fine rules k rule h is fine free apart = record {
    free = λ j l. elim (cases_lt j k) [
      | inl low ↦ fine.free j low
      | inr high ↦ let e : j ≡ k = omega (arith, l, high) in rw e (subst IsFreeName (sym here) free)
    ];
    apart = λ j l. elim (cases_lt j k) [
      | inl low ↦ fine.apart j low
      | inr high ↦ let e : j ≡ k = omega (arith, l, high) in rw e (rw (here, ← names-before rules k) apart)
    ];
  }
    where
      here : get_or (map called rules) k [] ≡ called rule
      here = name-at rules k rule h is

  -- what is wrong with a name is so at its place
  pub fault-at : (rules : List R) (k : ℕ) (rule : R) → k < length rules → rule ≡ get_or rules k rule → (what : Option BookWhat) → IsFaultOf (map called (take k rules)) (called rule) what
      → IsFaultOf (take k (map called rules)) (get_or (map called rules) k []) what
  fault-at rules k rule h is what fault =
      subst (λ (name : List ℕ). IsFaultOf (take k (map called rules)) name what) (sym (name-at rules k rule h is))
      (subst (λ (names : List (List ℕ)). IsFaultOf names (called rule) what) (names-before rules k) fault)

  -- the first rule of a name is the one that answers for it
  pub meaning-at : (base : Meaning) (does : R → Meaning) (rules : List R) (k : ℕ) (rule : R) (word : List ℕ) → k < length (map called rules) → rule ≡ get_or rules k rule
      → is_among (take k (map called rules)) word ≡ false → get_or (map called rules) k [] ≡ word → meaning_among base called does rules word ≡ does rule
  meaning-at base does [] k rule word h is before e = absurd (omega arith)
  meaning-at base does (x ∷ rules) zero rule word h is before e =
      ap (λ (b : Bool). cond b (does x) (meaning_among base called does rules word)) ((bytes_eq-Decides word (called x)).1 (sym e)) ∙ ap does (sym is)
  meaning-at base does (x ∷ rules) (suc k) rule word h is before e =
      let parts = none-first (bytes_eq word (called x)) (is_among (take k (map called rules)) word) before in
      ap (λ (b : Bool). cond b (does x) (meaning_among base called does rules word)) parts.0 ∙ meaning-at base does rules k rule word (omega arith) is parts.1 e
