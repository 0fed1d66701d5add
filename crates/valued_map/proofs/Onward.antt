-- Steps that lead on from a content, as steps that led to the content behind them all; and how many darts they make.
use Rattle.std.proofs.Common.{ℕ, zero, suc, ◌≡◌, ◌+◌, ◌<◌, ◌≤◌, refl, sym, ap, subst, ◌∙◌, List, [], ◌∷◌, length, get_or, take, drop, Option, arith}
use Rattle.std.proofs.lemmas.List.{take_all}
use Rattle.std.proofs.lemmas.List.Sums.{sum_by-cons}
use Rattle.map_defs.specs.Kind.{Kind}
use Rattle.map_defs.specs.Rows.{Rows, made, made_max, live_count}
use Rattle.map_defs.specs.Values.{Rule}
use Rattle.machine_defs.specs.State.{Content}
use Rattle.machine_defs.specs.Difference.{Difference, IsDifference, put_forward, taken_back}
use Rattle.machine_defs.specs.Kept.{IsLawfulContent}
use Rattle.journal_laws.specs.Following.{Follows, all_put_forward, all_taken_back}
use Rattle.journal_laws.proofs.Leading.{leads-back, difference-led}
use Rattle.store_defs.specs.Stores.{Store}
use Rattle.store_defs.specs.Labelings.{Labeling, KeepsIds, KeepsPlaces}
use Rattle.label_laws.specs.Contents.{content_of}
use Rattle.label_laws.specs.Maps.{IsStoredMap}
use Rattle.label_laws.proofs.Same.{content-alike}
use Rattle.valued_map.specs.Undoing.{AreStepsTo, AreStepsFrom, HasRoomFor, births_of, no_step, step_at}
use Rattle.valued_map.proofs.Loaded.{roomier-stored}
use Rattle.valued_map.proofs.RowCounts.{count-after}
use Rattle.valued_map.proofs.Reversing.{made-after}

-- the steps behind the first one lead on from the content behind it
steps-behind : (c : Content) (s : Difference) (ss : List Difference) → AreStepsFrom c (s ∷ ss) → AreStepsFrom (put_forward s c) ss
steps-behind c s ss from = record {
  kept = λ j h. from.kept (suc j) (omega arith);
  follow = λ j h.
      let e : suc j + 1 ≡ suc (j + 1) = omega arith in
      subst (λ (m : ℕ). Follows (all_put_forward (take j ss) (put_forward s c)) (all_put_forward (take m (s ∷ ss)) c)) e (from.follow (suc j) (omega arith));
  differ = λ j d h.
      let e : suc j + 1 ≡ suc (j + 1) = omega arith in
      subst (λ (m : ℕ). IsDifference (all_put_forward (take j ss) (put_forward s c)) (all_put_forward (take m (s ∷ ss)) c) (get_or ss j d)) e (from.differ (suc j) d (omega arith));
}

first-follows : (c : Content) (s : Difference) (ss : List Difference) → AreStepsFrom c (s ∷ ss) → Follows c (put_forward s c)
first-follows c s ss from = from.follow 0 (omega arith)

first-differs : (c : Content) (s : Difference) (ss : List Difference) → AreStepsFrom c (s ∷ ss) → IsDifference c (put_forward s c) s
first-differs c s ss from = from.differ 0 no_step (omega arith)

-- with the later steps taken back, the earlier ones are put forward
pub back-at : (c : Content) (steps : List Difference) → AreStepsFrom c steps → (j : ℕ) → j ≤ length steps
    → all_taken_back (drop j steps) (all_put_forward steps c) ≡ all_put_forward (take j steps) c
back-at c [] from zero h = refl
back-at c [] from (suc j) h = absurd (omega arith)
back-at c (s ∷ ss) from zero h =
    ap (taken_back s) (back-at (put_forward s c) ss (steps-behind c s ss from) 0 (omega arith))
    ∙ leads-back c (put_forward s c) s (first-follows c s ss from) (first-differs c s ss from)
back-at c (s ∷ ss) from (suc j) h = back-at (put_forward s c) ss (steps-behind c s ss from) j (omega arith)

module _ (c : Content) (steps : List Difference) (from : AreStepsFrom c steps) where
  abbrev Then : Content
  Then = all_put_forward steps c

  at : (j : ℕ) → j ≤ length steps → all_taken_back (drop j steps) Then ≡ all_put_forward (take j steps) c
  at j h = back-at c steps from j h

  -- the steps led to the content behind them
  pub steps-to : AreStepsTo Then steps
  steps-to = record {
    kept = λ j h. subst IsLawfulContent (sym (at j h)) (from.kept j h);
    follow = λ j h.
        subst (λ (a : Content). Follows a (all_taken_back (drop (j + 1) steps) Then)) (sym (at j (omega arith)))
        (subst (λ (b : Content). Follows (all_put_forward (take j steps) c) b) (sym (at (j + 1) (omega arith))) (from.follow j h));
    differ = λ j e h.
        subst (λ (a : Content). IsDifference a (all_taken_back (drop (j + 1) steps) Then) (get_or steps j e)) (sym (at j (omega arith)))
        (subst (λ (b : Content). IsDifference (all_put_forward (take j steps) c) b (get_or steps j e)) (sym (at (j + 1) (omega arith))) (from.differ j e h));
  }

  -- and all of them taken back give the first content
  pub back-again : all_taken_back steps Then ≡ c
  back-again = at 0 (omega arith)

  pub then-kept : IsLawfulContent Then
  then-kept = subst (λ (ss : List Difference). IsLawfulContent (all_put_forward ss c)) (take_all (length steps) steps (omega arith)) (from.kept (length steps) (omega arith))

-- how many darts are made behind the steps
pub made-onward : (c : Content) (steps : List Difference) → AreStepsFrom c steps → made (all_put_forward steps c).rows ≡ made c.rows + births_of steps
made-onward c [] from = omega arith
made-onward c (s ∷ ss) from =
    let more : made (put_forward s c).rows ≡ made c.rows + s.edit.births =
    made-after c.kind c.dim s.edit c.rows (put_forward s c).rows (difference-led c (put_forward s c) s (first-follows c s ss from) (first-differs c s ss from)) in
    let rest : made (all_put_forward ss (put_forward s c)).rows ≡ made (put_forward s c).rows + births_of ss = made-onward (put_forward s c) ss (steps-behind c s ss from) in
    let sum : births_of (s ∷ ss) ≡ s.edit.births + births_of ss = sum_by-cons (λ (t : Difference). t.edit.births) s ss in
    omega (arith, more, rest, sum)

-- no more than may be
pub made-few : (c : Content) (steps : List Difference) → AreStepsFrom c steps → made c.rows + births_of steps ≤ made_max
made-few c steps from =
    let made-is = made-onward c steps from in
    let few : made (all_put_forward steps c).rows ≤ made_max = (then-kept c steps from).sound.few in
    omega (arith, made-is, few)

-- no more darts live before a step, with those that it bears, than lived first and are born
live-onward : (c : Content) (steps : List Difference) → AreStepsFrom c steps → (j : ℕ) → j < length steps
    → live_count (all_put_forward (take j steps) c).rows + (step_at steps j).edit.births ≤ live_count c.rows + births_of steps
live-onward c [] from j h = absurd (omega arith)
live-onward c (s ∷ ss) from zero h = let sum : births_of (s ∷ ss) ≡ s.edit.births + births_of ss = sum_by-cons (λ (t : Difference). t.edit.births) s ss in omega (arith, sum)
live-onward c (s ∷ ss) from (suc j) h =
    let count : live_count (put_forward s c).rows + length s.edit.deaths ≡ live_count c.rows + s.edit.births =
    count-after c.kind c.dim s.edit c.rows (put_forward s c).rows (difference-led c (put_forward s c) s (first-follows c s ss from) (first-differs c s ss from)) in
    let rest : live_count (all_put_forward (take j ss) (put_forward s c)).rows + (step_at ss j).edit.births ≤ live_count (put_forward s c).rows + births_of ss =
    live-onward (put_forward s c) ss (steps-behind c s ss from) j (omega arith) in
    let sum : births_of (s ∷ ss) ≡ s.edit.births + births_of ss = sum_by-cons (λ (t : Difference). t.edit.births) s ss in
    omega (arith, count, rest, sum)

-- so there is room for all
pub room-onward : (c : Content) (steps : List Difference) → AreStepsFrom c steps → (places : ℕ) → live_count c.rows + births_of steps ≤ places → HasRoomFor (all_put_forward steps c) steps places
room-onward c steps from places most j h =
    let low = live-onward c steps from j h in
    let same : live_count (all_taken_back (drop j steps) (all_put_forward steps c)).rows ≡ live_count (all_put_forward (take j steps) c).rows =
    ap (λ (a : Content). live_count a.rows) (back-at c steps from j (omega arith)) in
    omega (arith, low, same, most)

-- A map with more room in its links and labels, and the content that it shows: the same.
module _ (k : Kind) (n : ℕ) (rows : Rows) (l m : Labeling) (p : Store) (rules : List (Option Rule)) (roomy : Rows) (same : roomy ≡ rows) (ids : KeepsIds l m) where
  pub roomy-content : content_of k n roomy m p rules ≡ content_of k n rows l p rules
  roomy-content = ap (λ (r : Rows). content_of k n r m p rules) same ∙ content-alike k n rows l m p p rules ids refl

  pub roomy-from : (steps : List Difference) → AreStepsFrom (content_of k n rows l p rules) steps → AreStepsFrom (content_of k n roomy m p rules) steps
  roomy-from steps from = subst (λ (c : Content). AreStepsFrom c steps) (sym roomy-content) from

  pub roomy-stored : IsStoredMap k n rows l p rules → KeepsPlaces l m → l.made ≤ m.made → IsStoredMap k n roomy m p rules
  roomy-stored s places long =
      subst (λ (r : Rows). IsStoredMap k n r m p rules) (sym same) (roomier-stored k n rows l m p p rules s ids (λ i has. (places i).1 has) long refl)
