-- What a set says of the darts that were seen.
use Rattle.std.proofs.Common.{◌≡◌, ℕ, ◌<◌, ◌≤◌, ◌↔◌, ◌⊎◌, List, [], ◌∷◌, ◌++◌, length, take, drop, Bool, true, false, not, cond, ◌==◌, eq-eqb, Contains, IsTrue, MatchBool, refl, sym, ap, ◌∙◌, subst, inl, inr, nat_cmp, arith, rules}
use Rattle.std.proofs.lemmas.Bool.{false≢true}
use Rattle.std.proofs.lemmas.List.{get_or_past, length-drop, length_push, take-append-drop, drop-append-le}
use Rattle.std.proofs.lemmas.List.Elements.{Contains-append_left, Contains-append_right, Contains-append_cases, Contains-push, Contains-push_cases}
use Rattle.std.specs.List.{IsAnyAnswer}
use Rattle.std.proofs.lemmas.Cmp.{nat_cmp_total}
use Rattle.std.proofs.lemmas.Map.Lookups.{exact_unsigned}
use Rattle.std.proofs.lemmas.Map.Views.{btree_set_contains_iff, tells_apart}
use Rattle.std.specs.BTreeMap.{is_at}
use Rattle.std.specs.BTreeSet.{BTreeSet, contains, Updates}
use Rattle.cell_walk.specs.Marks.{IsMarked}

pub seen-has : (s : BTreeSet ℕ) (d : ℕ) → IsTrue (contains nat_cmp s d) ↔ Contains s.keys d
seen-has s d = btree_set_contains_iff nat_cmp_total exact_unsigned s d

-- a set with one more dart
pub seen-grown : (s n : BTreeSet ℕ) (d : ℕ) → Updates nat_cmp s n d true → (e : ℕ) → Contains n.keys e ↔ (Contains s.keys e ⊎ (d ≡ e))
seen-grown s n d updates e = (λ has. to has (is_at (nat_cmp d) e) refl, from)
  where
    to : Contains n.keys e → (r : Bool) → is_at (nat_cmp d) e ≡ r → Contains s.keys e ⊎ (d ≡ e)
    to has true at = inr (tells_apart exact_unsigned d e at)
    to has false at = inl ((seen-has s e).0 (sym (updates.2 e at) ∙ (seen-has n e).1 has))

    new : (r : Bool) → Contains s.keys e → cond r true (contains nat_cmp s e) ≡ true
    new true has = refl
    new false has = (seen-has s e).1 has

    from : Contains s.keys e ⊎ (d ≡ e) → Contains n.keys e
    from (inl has) = (seen-has n e).0 (updates.0 e ∙ new (is_at (nat_cmp d) e) has)
    from (inr is) = subst (Contains n.keys) is ((seen-has n d).0 updates.1)

pub seen-added : (s : BTreeSet ℕ) (d : ℕ) (added : Bool) → added ≡ not (contains nat_cmp s d) → MatchBool added (Contains s.keys d → ⊥) (Contains s.keys d)
seen-added s d true is = λ has. false≢true (sym (ap not ((seen-has s d).1 has)) ∙ sym is)
seen-added s d false is = (seen-has s d).0 (held (contains nat_cmp s d) is)
  where
    held : (r : Bool) → false ≡ not r → r ≡ true
    held true h = refl
    held false h = absurd (false≢true h)

-- a list that was looked through
list-has : (few : List ℕ) (d : ℕ) (r : Bool) → IsAnyAnswer (λ y answer. (y == d) ≡ answer) few r → IsTrue r → Contains few d
list-has few d true cases is = search rules
list-has few d false cases is = absurd (false≢true is)

-- a list that was looked through in vain
pub list-lacks : (few : List ℕ) (d : ℕ) (r : Bool) → IsAnyAnswer (λ y answer. (y == d) ≡ answer) few r → r ≡ false → Contains few d → ⊥
list-lacks few d true cases is has = false≢true (sym is)
list-lacks few d false cases is has = false≢true (sym (cases has.0 d (omega arith) has.1) ∙ eq-eqb _ d has.2)

-- the set has just the darts of a list beyond the first ones
abbrev pub TellsRest : List ℕ → List ℕ → Type 0
TellsRest keys found = (d : ℕ) → Contains keys d ↔ Contains (drop 16 found) d

pub first-has : (found : List ℕ) (d : ℕ) → Contains (take 16 found) d → Contains found d
first-has found d has = subst (λ xs. Contains xs d) (take-append-drop 16 found) (Contains-append_left (take 16 found) (drop 16 found) d has)

rest-has : (found : List ℕ) (d : ℕ) → Contains (drop 16 found) d → Contains found d
rest-has found d has = subst (λ xs. Contains xs d) (take-append-drop 16 found) (Contains-append_right (take 16 found) (drop 16 found) d has)

either-has : (found : List ℕ) (d : ℕ) → Contains found d → Contains (take 16 found) d ⊎ Contains (drop 16 found) d
either-has found d has = Contains-append_cases (take 16 found) (drop 16 found) d (subst (λ xs. Contains xs d) (sym (take-append-drop 16 found)) has)

-- a dart that is one of the first ones
pub seen-first : (found : List ℕ) (d : ℕ) (r : Bool) → IsAnyAnswer (λ y answer. (y == d) ≡ answer) (take 16 found) r → IsTrue r → Contains found d
seen-first found d r cases is = first-has found d (list-has (take 16 found) d r cases is)

-- a dart that is none of the first ones is looked for in the set
pub seen-rest : (found : List ℕ) (more : BTreeSet ℕ) (d : ℕ) (known : Bool) → known ≡ contains nat_cmp more d → (Contains (take 16 found) d → ⊥) → TellsRest more.keys found → IsTrue known ↔ Contains found d
seen-rest found more d known is none tells = (
  λ yes. rest-has found d ((tells d).0 ((seen-has more d).0 (sym is ∙ yes))),
  λ has. (elim (either-has found d has) [ inl early ↦ absurd (none early) | inr late ↦ is ∙ (seen-has more d).1 ((tells d).1 late) ]),
)

-- another one of the first darts
pub put-first : (keys found : List ℕ) (d : ℕ) → length found < 16 → TellsRest keys found → TellsRest keys (found ++ d ∷ [])
put-first keys found d few tells e = (
  λ has. absurd (omega (arith, ((tells e).0 has).1, length-drop 16 found)),
  λ late. absurd (omega (arith, late.1, length-drop 16 (found ++ d ∷ []), length_push found d)),
)

-- a dart beyond the first ones is added to the set
pub put-rest : (found : List ℕ) (more next : BTreeSet ℕ) (d : ℕ) → 16 ≤ length found → Updates nat_cmp more next d true → TellsRest more.keys found → TellsRest next.keys (found ++ d ∷ [])
put-rest found more next d many updates tells e = (
  λ has. subst (λ xs. Contains xs e) (sym grown) (to ((seen-grown more next d updates e).0 has)),
  λ late. (seen-grown more next d updates e).1 (from (Contains-push_cases (drop 16 found) d e (subst (λ xs. Contains xs e) grown late))),
)
  where
    grown : drop 16 (found ++ d ∷ []) ≡ drop 16 found ++ d ∷ []
    grown = drop-append-le 16 found (d ∷ []) many

    to : Contains more.keys e ⊎ (d ≡ e) → Contains (drop 16 found ++ d ∷ []) e
    to (inl old) = Contains-append_left (drop 16 found) (d ∷ []) e ((tells e).0 old)
    to (inr is) = subst (Contains (drop 16 found ++ d ∷ [])) is (Contains-push (drop 16 found) d)

    from : Contains (drop 16 found) e ⊎ (d ≡ e) → Contains more.keys e ⊎ (d ≡ e)
    from (inl late) = inl ((tells e).1 late)
    from (inr is) = inr is

-- a set that was not changed
pub kept-rest : (keys new found : List ℕ) → ((d : ℕ) → Contains new d ↔ Contains keys d) → TellsRest keys found → TellsRest new found
kept-rest keys new found same tells d = (λ has. (tells d).0 ((same d).0 has), λ late. (same d).1 ((tells d).1 late))

-- no dart is marked past the marks
pub unmarked : (marks : List Bool) (found : List ℕ) (d : ℕ) (r : Bool) → length marks ≤ d → r ≡ false → ((e : ℕ) → IsMarked marks e ↔ Contains found e) → IsTrue r ↔ Contains found d
unmarked marks found d r past is tells = (
  λ yes. absurd (false≢true (sym is ∙ yes)),
  λ has. absurd (false≢true (sym (get_or_past marks d false past) ∙ (tells d).1 has)),
)
