-- A walk: the darts found so far, of which the first ones were visited, and what is found in the end.
use Rattle.std.proofs.Common.{◌≡◌, ◌≢◌, ℕ, zero, suc, ◌+◌, ◌≤◌, ◌<◌, ◌⊎◌, ◌↔◌, List, [], ◌∷◌, ◌++◌, length, take, get_or, Contains, None, refl, sym, ap, ◌∙◌, subst, inl, inr, arith}
use Rattle.std.proofs.lemmas.Bool.{cases_lt}
use Rattle.std.proofs.lemmas.List.{take_all, take_at, length_push, take_more, get_or-take, length-take, take-take, get_or_default}
use Rattle.std.proofs.lemmas.List.Elements.{Contains-append_left, Contains-push, Contains-push_cases, Contains-get_or}
use Rattle.map_defs.specs.Links.{Links}
use Rattle.map_defs.specs.LinkWords.{LinkWord, through, through_second}
use Rattle.map_defs.specs.Cells.{InOrbit, here, onward, Leads}
use Rattle.cell_walk.specs.Visits.{IsDartAdded, IsVisited, IsClosed}

-- the darts of old stay where they stood
pub Contains-before : (old new : List ℕ) → take (length old) new ≡ old → (y : ℕ) → Contains old y → Contains new y
Contains-before old new before y has =
    let longer : length old ≤ length new = omega (arith, length-take (length old) new, ap length before) in
    (has.0, omega (arith, has.1, longer), sym (get_or-take (length old) new has.0 y has.1) ∙ ap (λ xs. get_or xs has.0 y) before ∙ has.2)

-- a word of one link leads where its link does
one-step : (L : Links) (w : LinkWord) (x : ℕ) → w.second ≡ None → through L w x ≡ L w.first x
one-step L w x single = ap (λ s. through_second L s (L w.first x)) single

-- one word leads to y, which is added
pub visited-added : (L : Links) (w : LinkWord) (x y : ℕ) (old new : List ℕ) → through L w x ≡ y → y ≢ 0 → IsDartAdded old new y → IsVisited L (λ v. v ≡ w) x old new
visited-added L w x y old new is dart (inl known) = record {
  before = rw known.1 (take_all (length old) old (omega arith));
  only = λ z has. inl (subst (λ xs. Contains xs z) known.1 has);
  all = λ z leads. subst (λ xs. Contains xs z) (sym known.1) (subst (Contains old) (sym is ∙ ap (λ v. through L v x) (sym leads.1) ∙ leads.2) known.0);
}
visited-added L w x y old new is dart (inr fresh) = record {
  before = rw fresh.1 (take_at old (y ∷ []) (length old) refl);
  only = λ z has. only z (Contains-push_cases old y z (subst (λ xs. Contains xs z) fresh.1 has));
  all = λ z leads. subst (λ xs. Contains xs z) (sym fresh.1) (subst (Contains (old ++ y ∷ [])) (sym is ∙ ap (λ v. through L v x) (sym leads.1) ∙ leads.2) (Contains-push old y));
}
  where
    only : (z : ℕ) → Contains old z ⊎ (y ≡ z) → Contains old z ⊎ Leads L (λ v. v ≡ w) x z
    only z (inl has) = inl has
    only z (inr e) = inr (w, refl, is ∙ e, λ none. dart (e ∙ none))

-- the word leads nowhere
pub visited-nowhere : (L : Links) (w : LinkWord) (x : ℕ) (found : List ℕ) → through L w x ≡ 0 → IsVisited L (λ v. v ≡ w) x found found
visited-nowhere L w x found none = record {
  before = take_all (length found) found (omega arith);
  only = λ y has. inl has;
  all = λ y leads. absurd (leads.3 (sym leads.2 ∙ ap (λ v. through L v x) leads.1 ∙ none));
}

-- a word leads to the dart of a number, which is added
pub visited-reached : (L : Links) (w : LinkWord) (x number : ℕ) (old new : List ℕ) → number ≡ through L w x → (number ≡ 0 → new ≡ old) → (number ≢ 0 → IsDartAdded old new number) → IsVisited L (λ v. v ≡ w) x old new
visited-reached L w x zero old new is none dart =
    subst (IsVisited L (λ v. v ≡ w) x old) (sym (none refl)) (visited-nowhere L w x old (sym is))
visited-reached L w x (suc n) old new is none dart =
    visited-added L w x (suc n) old new (sym is) (λ zero_is. absurd (omega (arith, zero_is))) (dart (λ zero_is. absurd (omega (arith, zero_is))))

-- so does a word of one link
pub visited-number : (L : Links) (w : LinkWord) (x number : ℕ) (old new : List ℕ) → w.second ≡ None → number ≡ L w.first x → (number ≡ 0 → new ≡ old) → (number ≢ 0 → IsDartAdded old new number) → IsVisited L (λ v. v ≡ w) x old new
visited-number L w x number old new single is none dart = visited-reached L w x number old new (is ∙ sym (one-step L w x single)) none dart

-- after the words before place k, the word at place k
pub visited-more : (L : Links) (words : List LinkWord) (k : ℕ) (w : LinkWord) (x : ℕ) (a b c : List ℕ) → k < length words → w ≡ get_or words k w → IsVisited L (Contains (take k words)) x a b → IsVisited L (λ v. v ≡ w) x b c → IsVisited L (Contains (take (k + 1) words)) x a c
visited-more L words k w x a b c within at first then = record {
  before = before;
  only = λ y has. only y (then.only y has);
  all = λ y leads. all y leads (Contains-push_cases (take k words) w leads.0 (subst (λ ws. Contains ws leads.0) grown leads.1));
}
  where
    grown : take (k + 1) words ≡ take k words ++ w ∷ []
    grown = take_more words k w within ∙ ap (λ v. take k words ++ v ∷ []) (sym at)

    before : take (length a) c ≡ a
    before =
        let longer : length a ≤ length b = omega (arith, length-take (length a) b, ap length first.before) in
        sym (take-take (length a) (length b) c longer) ∙ ap (take (length a)) then.before ∙ first.before

    only : (y : ℕ) → Contains b y ⊎ Leads L (λ v. v ≡ w) x y → Contains a y ⊎ Leads L (Contains (take (k + 1) words)) x y
    only y (inl has) = earlier (first.only y has)
      where
        earlier : Contains a y ⊎ Leads L (Contains (take k words)) x y → Contains a y ⊎ Leads L (Contains (take (k + 1) words)) x y
        earlier (inl old) = inl old
        earlier (inr leads) = inr (leads.0, subst (λ ws. Contains ws leads.0) (sym grown) (Contains-append_left (take k words) (w ∷ []) leads.0 leads.1), leads.2, leads.3)
    only y (inr leads) = inr (leads.0, subst (λ ws. Contains ws leads.0) (sym grown) (subst (Contains (take k words ++ w ∷ [])) (sym leads.1) (Contains-push (take k words) w)), leads.2, leads.3)

    all : (y : ℕ) (leads : Leads L (Contains (take (k + 1) words)) x y) → Contains (take k words) leads.0 ⊎ (w ≡ leads.0) → Contains c y
    all y leads (inl has) = Contains-before b c then.before y (first.all y (leads.0, has, leads.2, leads.3))
    all y leads (inr e) = then.all y (leads.0, sym e, leads.2, leads.3)

-- The walk from d, after some darts were found before: all else that was found lies in the orbit, d was found, and from
-- each dart that was visited all that it leads to was found.
pub record IsWalked (L : Links) (Words : LinkWord → Type 0) (d : ℕ) (start : List ℕ) (next : ℕ) (found : List ℕ) : Type 0 where
  pub reached : (y : ℕ) → Contains found y → Contains start y ⊎ InOrbit (Leads L Words) d y
  pub begun : Contains found d
  pub before : take (length start) found ≡ start
  pub closed : (k : ℕ) → length start ≤ k → k < next → (y : ℕ) → Leads L Words (get_or found k 0) y → Contains found y
  pub from : length start ≤ next
  pub within : next ≤ length found

pub walked-none : (L : Links) (Words : LinkWord → Type 0) (d : ℕ) (start found : List ℕ) → IsDartAdded start found d → IsWalked L Words d start (length start) found
walked-none L Words d start found (inl known) = record {
  reached = λ y has. inl (subst (λ xs. Contains xs y) known.1 has);
  begun = subst (λ xs. Contains xs d) (sym known.1) known.0;
  before = rw known.1 (take_all (length start) start (omega arith));
  closed = λ k from low. absurd (omega arith);
  from = omega arith;
  within = omega (arith, ap length known.1);
}
walked-none L Words d start found (inr fresh) = record {
  reached = λ y has. reached y (Contains-push_cases start d y (subst (λ xs. Contains xs y) fresh.1 has));
  begun = subst (λ xs. Contains xs d) (sym fresh.1) (Contains-push start d);
  before = rw fresh.1 (take_at start (d ∷ []) (length start) refl);
  closed = λ k from low. absurd (omega arith);
  from = omega arith;
  within = omega (arith, ap length fresh.1, length_push start d);
}
  where
    reached : (y : ℕ) → Contains start y ⊎ (d ≡ y) → Contains start y ⊎ InOrbit (Leads L Words) d y
    reached y (inl has) = inl has
    reached y (inr e) = inr (subst (InOrbit (Leads L Words) d) e here)

pub walked-more : (L : Links) (Words : LinkWord → Type 0) (d : ℕ) (start : List ℕ) (next x : ℕ) (old new : List ℕ) → next < length old → x ≡ get_or old next 0 → IsClosed (Leads L Words) start → IsWalked L Words d start next old → IsVisited L Words x old new → IsWalked L Words d start (next + 1) new
walked-more L Words d start next x old new low at shut walk visit = record {
  reached = λ y has. reached y (visit.only y has);
  begun = Contains-before old new visit.before d walk.begun;
  before = sym (take-take (length start) (length old) new (omega (arith, walk.from))) ∙ ap (take (length start)) visit.before ∙ walk.before;
  closed = λ k from below y leads. closed k y (cases_lt k next) from below leads;
  from = omega (arith, walk.from);
  within = omega (arith, longer);
}
  where
    longer : length old ≤ length new
    longer = omega (arith, length-take (length old) new, ap length visit.before)

    here_from : (y : ℕ) → Leads L Words x y → Contains start x ⊎ InOrbit (Leads L Words) d x → Contains start y ⊎ InOrbit (Leads L Words) d y
    here_from y leads (inl has) = inl (shut x y has leads)
    here_from y leads (inr o) = inr (onward o leads)

    reached : (y : ℕ) → Contains old y ⊎ Leads L Words x y → Contains start y ⊎ InOrbit (Leads L Words) d y
    reached y (inl has) = walk.reached y has
    reached y (inr leads) = here_from y leads (walk.reached x (subst (Contains old) (sym at) (Contains-get_or old next 0 low)))

    stays : (k : ℕ) → k < length old → get_or new k 0 ≡ get_or old k 0
    stays k below = sym (get_or-take (length old) new k 0 below) ∙ ap (λ xs. get_or xs k 0) visit.before

    closed : (k y : ℕ) → (k < next) ⊎ (next ≤ k) → length start ≤ k → k < next + 1 → Leads L Words (get_or new k 0) y → Contains new y
    closed k y (inl below) from last leads =
        Contains-before old new visit.before y (walk.closed k from below y (subst (λ z. Leads L Words z y) (stays k (omega arith)) leads))
    closed k y (inr above) from last leads =
        let here_is : k ≡ next = omega arith in
        visit.all y (subst (λ z. Leads L Words z y) (stays k (omega arith) ∙ ap (λ j. get_or old j 0) here_is ∙ sym at) leads)

-- when all that was found was visited, it is the orbit, besides what was found before
pub walked-all : (L : Links) (Words : LinkWord → Type 0) (d : ℕ) (start : List ℕ) (next : ℕ) (found : List ℕ) → length found ≤ next → IsClosed (Leads L Words) start → IsWalked L Words d start next found → (y : ℕ) → Contains found y ↔ (Contains start y ⊎ InOrbit (Leads L Words) d y)
walked-all L Words d start next found past shut walk y = (walk.reached y, all)
  where
    early : (z : ℕ) → Contains start z → Contains found z
    early z has = Contains-before start found walk.before z has

    on : (u z : ℕ) → (has : Contains found u) → (has.0 < length start) ⊎ (length start ≤ has.0) → Leads L Words u z → Contains found z
    on u z has (inl below) leads =
        let there : get_or start has.0 u ≡ u = ap (λ xs. get_or xs has.0 u) (sym walk.before) ∙ get_or-take (length start) found has.0 u below ∙ has.2 in
        early z (shut u z (has.0, below, there) leads)
    on u z has (inr above) leads =
        walk.closed has.0 above (omega (arith, has.1)) z (subst (λ n. Leads L Words n z) (sym (get_or_default found has.0 0 u has.1 ∙ has.2)) leads)

    whole : (z : ℕ) → InOrbit (Leads L Words) d z → Contains found z
    whole z here = walk.begun
    whole z (onward {x = u} {y = v} o leads) =
        let has : Contains found u = whole u o in
        on u z has (cases_lt has.0 (length start)) leads

    all : Contains start y ⊎ InOrbit (Leads L Words) d y → Contains found y
    all (inl has) = early y has
    all (inr o) = whole y o

pub Contains-none : (d : ℕ) → Contains [] d → ⊥
Contains-none d has = absurd (omega (arith, has.1))

-- nothing leads on from no darts
pub closed-none : (Step : ℕ → ℕ → Type 0) → IsClosed Step []
closed-none Step x y has step = absurd (omega (arith, has.1))

pub orbit-alone : (Step : ℕ → ℕ → Type 0) (d y : ℕ) → Contains [] y ⊎ InOrbit Step d y → InOrbit Step d y
orbit-alone Step d y (inl none) = absurd (omega (arith, none.1))
orbit-alone Step d y (inr o) = o
