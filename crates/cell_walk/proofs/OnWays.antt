-- A walk along two words that take turns: what was found on the way, and what is found when both ways have ended.
use Rattle.std.proofs.Common.{◌≡◌, ◌≢◌, ℕ, ◌≤◌, ◌⊎◌, ◌↔◌, List, [], ◌∷◌, ◌++◌, length, take, Contains, All, Option, refl, sym, ap, ◌∙◌, subst, inl, inr, arith}
use Rattle.std.proofs.lemmas.List.{take_all, take_at, length-take, length_push, take-take}
use Rattle.std.proofs.lemmas.List.Elements.{Contains-append_left, Contains-push, Contains-push_cases}
use Rattle.map_defs.specs.Kind.{Kind, inverse}
use Rattle.map_defs.specs.Links.{Links}
use Rattle.map_defs.specs.LinkWords.{LinkWord, one_link, through, inverse_word, IsWithin}
use Rattle.map_defs.specs.Cells.{InOrbit, here, onward, Leads}
use Rattle.link_laws.proofs.CellTurns.{word_turns}
use Rattle.cell_walk.specs.Visits.{IsClosed}
use Rattle.cell_walk.specs.declared.ways.Way.{Way}
use Rattle.cell_walk.specs.declared.ways.Ways.{Ways}
use Rattle.cell_walk.specs.Ways.{IsEither, IsLink, TakesTurns, AreWays, AreAlong, IsFollowed}
use Rattle.cell_walk.proofs.CellDarts.{orbit-wider}
use Rattle.cell_walk.proofs.Walks.{Contains-before}

-- w leads next and v after it: these are p and q, in one order or the other
abbrev IsTurn : LinkWord → LinkWord → LinkWord → LinkWord → Type 0
IsTurn p q w v = ((w ≡ p) × (v ≡ q)) ⊎ ((w ≡ q) × (v ≡ p))

-- The walk from d along p and q in turn, after some darts were found before, stands at a dart from which w leads next:
-- from all other darts that were found since, all that leads on was found.
pub record IsOnWay (k : Kind) (L : Links) (p q : LinkWord) (d : ℕ) (old : List ℕ) (w v : LinkWord) (at : ℕ) (found : List ℕ) : Type 0 where
  pub turn : IsTurn p q w v
  pub there : Contains found at
  pub going : InOrbit (Leads L (IsEither p q)) d at
  pub before : take (length old) found ≡ old
  pub reached : (y : ℕ) → Contains found y → Contains old y ⊎ InOrbit (Leads L (IsEither p q)) d y
  pub closed : (x y : ℕ) → Contains found x → (s : Leads L (TakesTurns k p q) x y) → Contains old x ⊎ Contains found y ⊎ ((x ≡ at) × (s.0 ≡ w))
  pub begun : (y : ℕ) → through L p d ≡ y → y ≢ 0 → Contains found y ⊎ ((at ≡ d) × (w ≡ p))

pub on_way-none : (k : Kind) (L : Links) (p q : LinkWord) (d : ℕ) (old : List ℕ) → Contains old d → IsOnWay k L p q d old p q d old
on_way-none k L p q d old has = record {
  turn = inl (refl, refl);
  there = has;
  going = here;
  before = take_all (length old) old (omega arith);
  reached = λ y known. inl known;
  closed = λ x y known s. inl known;
  begun = λ y leads dart. inr (refl, refl);
}

module _ (k : Kind) (L : Links) (nil : (i : ℕ) → L i 0 ≡ 0) (back : (i x : ℕ) → L i x ≢ 0 → L (inverse k i) (L i x) ≡ x) (p q : LinkWord) (d : ℕ) (old : List ℕ) where
  -- the word leads on to a dart that was not found before
  pub on_way-more : (w v : LinkWord) (at next : ℕ) (found : List ℕ) → through L w at ≡ next → next ≢ 0 → IsOnWay k L p q d old w v at found → IsOnWay k L p q d old v w next (found ++ next ∷ [])
  on_way-more w v at next found leads dart way = record {
    turn = turned way.turn;
    there = Contains-push found next;
    going = gone;
    before = before;
    reached = λ y has. reached y (Contains-push_cases found next y has);
    closed = λ x y has s. closed x y s (Contains-push_cases found next x has);
    begun = λ y from real. begun y from (way.begun y from real);
  }
    where
      turned : IsTurn p q w v → IsTurn p q v w
      turned (inl same) = inr (same.1, same.0)
      turned (inr other) = inl (other.1, other.0)

      either : IsTurn p q w v → IsEither p q w
      either (inl same) = inl same.0
      either (inr other) = inr other.0

      gone : InOrbit (Leads L (IsEither p q)) d next
      gone = onward way.going (w, either way.turn, leads, dart)

      longer : length old ≤ length found
      longer = omega (arith, length-take (length old) found, ap length way.before)

      before : take (length old) (found ++ next ∷ []) ≡ old
      before = sym (take-take (length old) (length found) (found ++ next ∷ []) longer) ∙ ap (take (length old)) (take_at found (next ∷ []) (length found) refl) ∙ way.before

      grown : (y : ℕ) → Contains found y → Contains (found ++ next ∷ []) y
      grown y has = Contains-append_left found (next ∷ []) y has

      reached : (y : ℕ) → Contains found y ⊎ (next ≡ y) → Contains old y ⊎ InOrbit (Leads L (IsEither p q)) d y
      reached y (inl has) = way.reached y has
      reached y (inr is) = inr (subst (InOrbit (Leads L (IsEither p q)) d) is gone)

      -- from the dart that was found a word leads back, and the other one is the next
      choices : (u : LinkWord) → IsTurn p q w v → TakesTurns k p q u → IsEither (inverse_word k w) v u
      choices u (inl same) turns = subst (λ m. IsEither (inverse_word k m) v u) (sym same.0) (subst (λ m. IsEither (inverse_word k p) m u) (sym same.1) turns.0)
      choices u (inr other) turns = subst (λ m. IsEither (inverse_word k m) v u) (sym other.0) (subst (λ m. IsEither (inverse_word k q) m u) (sym other.1) turns.1)

      onwards : (x y : ℕ) (s : Leads L (TakesTurns k p q) x y) → next ≡ x → IsEither (inverse_word k w) v s.0 → Contains old x ⊎ Contains (found ++ next ∷ []) y ⊎ ((x ≡ next) × (s.0 ≡ v))
      onwards x y s is (inl leads_back) =
          let to : at ≡ y = sym (word_turns k L nil back w at next leads dart) ∙ ap (through L (inverse_word k w)) is ∙ ap (λ m. through L m x) (sym leads_back) ∙ s.2 in
          inr (inl (grown y (subst (Contains found) to way.there)))
      onwards x y s is (inr leads_on) = inr (inr (sym is, leads_on))

      closed : (x y : ℕ) (s : Leads L (TakesTurns k p q) x y) → Contains found x ⊎ (next ≡ x) → Contains old x ⊎ Contains (found ++ next ∷ []) y ⊎ ((x ≡ next) × (s.0 ≡ v))
      closed x y s (inl has) = earlier (way.closed x y has s)
        where
          earlier : Contains old x ⊎ Contains found y ⊎ ((x ≡ at) × (s.0 ≡ w)) → Contains old x ⊎ Contains (found ++ next ∷ []) y ⊎ ((x ≡ next) × (s.0 ≡ v))
          earlier (inl first) = inl first
          earlier (inr (inl known)) = inr (inl (grown y known))
          earlier (inr (inr last)) =
              let to : next ≡ y = sym leads ∙ ap (through L w) (sym last.0) ∙ ap (λ m. through L m x) (sym last.1) ∙ s.2 in
              inr (inl (subst (Contains (found ++ next ∷ [])) to (Contains-push found next)))
      closed x y s (inr is) = onwards x y s is (choices s.0 way.turn s.1)

      begun : (y : ℕ) → through L p d ≡ y → Contains found y ⊎ ((at ≡ d) × (w ≡ p)) → Contains (found ++ next ∷ []) y ⊎ ((next ≡ d) × (v ≡ p))
      begun y from (inl known) = inl (grown y known)
      begun y from (inr first) =
          let to : next ≡ y = sym leads ∙ ap (through L w) first.0 ∙ ap (λ m. through L m d) first.1 ∙ from in
          inl (subst (Contains (found ++ next ∷ [])) to (Contains-push found next))

-- the word leads nowhere, or to a dart that was found
pub on_way-all : (k : Kind) (L : Links) (p q : LinkWord) (d : ℕ) (old : List ℕ) (w v : LinkWord) (at : ℕ) (found : List ℕ) → ((y : ℕ) → through L w at ≡ y → y ≢ 0 → Contains found y) → IsOnWay k L p q d old w v at found → IsFollowed k L p q d old found
on_way-all k L p q d old w v at found ended way = record {
  before = way.before;
  reached = way.reached;
  closed = λ x y has s. closed x y s (way.closed x y has s);
  begun = λ y from real. begun y from real (way.begun y from real);
}
  where
    closed : (x y : ℕ) (s : Leads L (TakesTurns k p q) x y) → Contains old x ⊎ Contains found y ⊎ ((x ≡ at) × (s.0 ≡ w)) → Contains old x ⊎ Contains found y
    closed x y s (inl first) = inl first
    closed x y s (inr (inl known)) = inr known
    closed x y s (inr (inr last)) = inr (ended y (ap (through L w) (sym last.0) ∙ ap (λ m. through L m x) (sym last.1) ∙ s.2) s.3)

    begun : (y : ℕ) → through L p d ≡ y → y ≢ 0 → Contains found y ⊎ ((at ≡ d) × (w ≡ p)) → Contains found y
    begun y from real (inl known) = known
    begun y from real (inr first) = ended y (ap (through L w) first.0 ∙ ap (λ m. through L m d) first.1 ∙ from) real

-- the word leads nowhere, to a dart that was found before, or to the dart from which it leads
pub on_way-back : (k : Kind) (L : Links) (p q : LinkWord) (d end : ℕ) (old : List ℕ) (w v : LinkWord) (at : ℕ) (found : List ℕ) → Contains old end
    → ((y : ℕ) → through L w at ≡ y → y ≢ 0 → (y ≡ end) ⊎ (y ≡ at)) → IsOnWay k L p q d old w v at found → IsFollowed k L p q d old found
on_way-back k L p q d end old w v at found has ended way =
    on_way-all k L p q d old w v at found (λ y leads real. known y (ended y leads real)) way
  where
    known : (y : ℕ) → (y ≡ end) ⊎ (y ≡ at) → Contains found y
    known y (inl is) = subst (Contains found) (sym is) (Contains-before old found way.before end has)
    known y (inr is) = subst (Contains found) (sym is) way.there

-- When d and both ways from it were found, its orbit was found, besides what was found before.
pub gone-round : (k : Kind) (L : Links) (f g b c : LinkWord) (d : ℕ) (old half new : List ℕ) → AreWays k f g b c → IsClosed (Leads L (IsEither f b)) old → IsFollowed k L f g d (old ++ d ∷ []) half → IsFollowed k L b c d half new → (y : ℕ) → Contains new y ↔ (Contains old y ⊎ InOrbit (Leads L (IsEither f b)) d y)
gone-round k L f g b c d old half new ways shut one other y = (found y, all)
  where
    Step : ℕ → ℕ → Type 0
    Step = Leads L (IsEither f b)

    within : (w u : LinkWord) → IsEither f b w → IsEither f b u → (x z : ℕ) → Leads L (IsEither w u) x z → Step x z
    within w u first second x z s = (s.0, chosen s.1, s.2, s.3)
      where
        chosen : IsEither w u s.0 → IsEither f b s.0
        chosen (inl is) = subst (IsEither f b) (sym is) first
        chosen (inr is) = subst (IsEither f b) (sym is) second

    begin : (z : ℕ) → Contains old z ⊎ (d ≡ z) → Contains old z ⊎ InOrbit Step d z
    begin z (inl known) = inl known
    begin z (inr is) = inr (subst (InOrbit Step d) is here)

    middle : (z : ℕ) → Contains (old ++ d ∷ []) z ⊎ InOrbit (Leads L (IsEither f g)) d z → Contains old z ⊎ InOrbit Step d z
    middle z (inl known) = begin z (Contains-push_cases old d z known)
    middle z (inr o) = inr (orbit-wider (Leads L (IsEither f g)) Step (within f g (inl refl) ways.forth) d z o)

    last : (z : ℕ) → Contains half z ⊎ InOrbit (Leads L (IsEither b c)) d z → Contains old z ⊎ InOrbit Step d z
    last z (inl known) = middle z (one.reached z known)
    last z (inr o) = inr (orbit-wider (Leads L (IsEither b c)) Step (within b c (inr refl) ways.back) d z o)

    found : (z : ℕ) → Contains new z → Contains old z ⊎ InOrbit Step d z
    found z has = last z (other.reached z has)

    later : (z : ℕ) → Contains half z → Contains new z
    later z has = Contains-before half new other.before z has

    early : (z : ℕ) → Contains (old ++ d ∷ []) z → Contains new z
    early z has = later z (Contains-before (old ++ d ∷ []) half one.before z has)

    from_old : (x z : ℕ) → Step x z → Contains old x ⊎ (d ≡ x) → Contains new z
    from_old x z s (inl known) = early z (Contains-append_left old (d ∷ []) z (shut x z known s))
    from_old x z s (inr is) = chosen s.1
      where
        start : (w : LinkWord) → s.0 ≡ w → through L w d ≡ z
        start w e = ap (through L w) is ∙ ap (λ m. through L m x) (sym e) ∙ s.2

        chosen : IsEither f b s.0 → Contains new z
        chosen (inl e) = later z (one.begun z (start f e) s.3)
        chosen (inr e) = other.begun z (start b e) s.3

    from_half : (x z : ℕ) → Step x z → Contains (old ++ d ∷ []) x ⊎ Contains half z → Contains new z
    from_half x z s (inl known) = from_old x z s (Contains-push_cases old d x known)
    from_half x z s (inr has) = later z has

    from_new : (x z : ℕ) → Step x z → Contains half x ⊎ Contains new z → Contains new z
    from_new x z s (inl known) = from_half x z s (one.closed x z known (s.0, ways.forth_turns s.0 s.1, s.2, s.3))
    from_new x z s (inr has) = has

    whole : (z : ℕ) → InOrbit Step d z → Contains new z
    whole z here = early z (Contains-push old d)
    whole z (onward {x = u} {y = v} o s) = from_new u z s (other.closed u z (whole u o) (s.0, ways.back_turns s.0 s.1, s.2, s.3))

    all : Contains old y ⊎ InOrbit Step d y → Contains new y
    all (inl known) = early y (Contains-append_left old (d ∷ []) y known)
    all (inr o) = whole y o

-- the orbit of a dart that was found was found before
pub known-round : (Step : ℕ → ℕ → Type 0) (found : List ℕ) (d : ℕ) → IsClosed Step found → Contains found d → (y : ℕ) → Contains found y ↔ (Contains found y ⊎ InOrbit Step d y)
known-round Step found d shut has y = (inl, all)
  where
    whole : (z : ℕ) → InOrbit Step d z → Contains found z
    whole z here = has
    whole z (onward {x = u} {y = v} o s) = shut u z (whole u o) s

    all : Contains found y ⊎ InOrbit Step d y → Contains found y
    all (inl known) = known
    all (inr o) = whole y o

-- what was found before d and the two ways stays where it stood
pub round-before : (d : ℕ) (old half new : List ℕ) → take (length (old ++ d ∷ [])) half ≡ old ++ d ∷ [] → take (length half) new ≡ half → take (length old) new ≡ old
round-before d old half new one other =
    sym (take-take (length old) (length half) new (omega (arith, length-take (length (old ++ d ∷ [])) half, ap length one, length_push old d)))
    ∙ ap (take (length old)) other
    ∙ sym (take-take (length old) (length (old ++ d ∷ [])) half (omega (arith, length_push old d)))
    ∙ ap (take (length old)) one
    ∙ take_at old (d ∷ []) (length old) refl

-- the same words lead alike, and so to the same orbits
leads-alike : (L : Links) (V W : LinkWord → Type 0) → ((w : LinkWord) → V w → W w) → (x y : ℕ) → Leads L V x y → Leads L W x y
leads-alike L V W to x y s = (s.0, to s.0 s.1, s.2, s.3)

pub closed-alike : (L : Links) (V W : LinkWord → Type 0) → ((w : LinkWord) → V w ↔ W w) → (darts : List ℕ) → IsClosed (Leads L V) darts → IsClosed (Leads L W) darts
closed-alike L V W same darts shut x y has s = shut x y has (leads-alike L W V (λ w. (same w).1) x y s)

pub round-alike : (L : Links) (V W : LinkWord → Type 0) → ((w : LinkWord) → V w ↔ W w) → (d : ℕ) (old new : List ℕ) → ((y : ℕ) → Contains new y ↔ (Contains old y ⊎ InOrbit (Leads L W) d y)) → (y : ℕ) → Contains new y ↔ (Contains old y ⊎ InOrbit (Leads L V) d y)
round-alike L V W same d old new found y = (λ has. from ((found y).0 has), λ known. (found y).1 (to known))
  where
    from : Contains old y ⊎ InOrbit (Leads L W) d y → Contains old y ⊎ InOrbit (Leads L V) d y
    from (inl known) = inl known
    from (inr o) = inr (orbit-wider (Leads L W) (Leads L V) (leads-alike L W V (λ w. (same w).1)) d y o)

    to : Contains old y ⊎ InOrbit (Leads L V) d y → Contains old y ⊎ InOrbit (Leads L W) d y
    to (inl known) = inl known
    to (inr o) = inr (orbit-wider (Leads L V) (Leads L W) (leads-alike L V W (λ w. (same w).0)) d y o)

pub orbit-alike : (L : Links) (V W : LinkWord → Type 0) → ((w : LinkWord) → V w ↔ W w) → (d y : ℕ) → InOrbit (Leads L W) d y ↔ InOrbit (Leads L V) d y
orbit-alike L V W same d y = (
  λ o. orbit-wider (Leads L W) (Leads L V) (leads-alike L W V (λ w. (same w).1)) d y o,
  λ o. orbit-wider (Leads L V) (Leads L W) (leads-alike L V W (λ w. (same w).0)) d y o,
)

pub within-alike : (n : ℕ) (words : List LinkWord) (W : LinkWord → Type 0) → ((w : LinkWord) → Contains words w ↔ W w) → All (IsWithin n) words → (w : LinkWord) → W w → IsWithin n w
within-alike n words W same all w is = let has = (same w).1 is in subst (IsWithin n) has.2 (all has.0 w has.1)

-- a word by its links
abbrev word_of : ℕ → Option ℕ → LinkWord
word_of first second = record { first = first; second = second }

-- a word of one link is told by that link
pub link-is : (w : LinkWord) (i : ℕ) → i ≡ w.first → IsLink w → one_link i ≡ w
link-is w i is single = ap one_link is ∙ ap (word_of w.first) (sym single)

-- a way whose words are one link each was followed along these links
pub followed-links : (k : Kind) (L : Links) (way : Way) (one other d : ℕ) (old new : List ℕ) → one ≡ way.next.first → other ≡ way.after.first → IsLink way.next × IsLink way.after
    → IsFollowed k L (one_link one) (one_link other) d old new → IsFollowed k L way.next way.after d old new
followed-links k L way one other d old new first second single step =
    subst (λ w. IsFollowed k L w way.after d old new) (link-is way.next one first single.0)
    (subst (λ w. IsFollowed k L (one_link one) w d old new) (link-is way.after other second single.1) step)

-- ways of the same words go along the same words
pub along-alike : (k : Kind) (words : List LinkWord) (f g b c : LinkWord) (ways : Ways) → f ≡ ways.forth.next → g ≡ ways.forth.after → b ≡ ways.back.next → c ≡ ways.back.after
    → AreAlong k words ways → AreAlong k words (record { forth = record { next = f; after = g }; back = record { next = b; after = c } })
along-alike k words f g b c ways first second third fourth along = record {
  same = λ w. subst (λ x. Contains words w ↔ IsEither f x w) (sym third) (subst (λ x. Contains words w ↔ IsEither x ways.back.next w) (sym first) (along.same w));
  turns =
      subst (λ x. AreWays k f g b x) (sym fourth)
      (subst (λ x. AreWays k f g x ways.back.after) (sym third)
      (subst (λ x. AreWays k f x ways.back.next ways.back.after) (sym second)
      (subst (λ x. AreWays k x ways.forth.after ways.back.next ways.back.after) (sym first) along.turns)));
}
