-- The search of a component visits the darts of its queue, one after another.
use Rattle.std.proofs.Common.{ℕ, ◌≡◌, ◌≤◌, ◌<◌, ◌+◌, ◌⊎◌, inl, inr, sym, ap, subst, ◌∙◌, true, not, None, Some, List, [], ◌∷◌, length, get_or, slice_set, Contains, arith}
use Rattle.std.proofs.lemmas.Bool.{cases_lt}
use Rattle.std.proofs.lemmas.List.{get_or-take}
use Rattle.map_defs.specs.Links.{Links}
use Rattle.orient_half.specs.declared.search.Reached.{Reached}
use Rattle.orient_half.specs.Marks.{Marks, mark_at, sign_at, IsReached, Flips, Clashes, AreQueued}
use Rattle.orient_half.specs.Searches.{IsGiven, IsSearched, IsGrown, IsSurveyed, MeetsClash}
use Rattle.orient_half.proofs.Grown.{mark, grown-trans, given-grown}
use Rattle.orient_half.proofs.MarkFacts.{not-twice, sign-mark, reached-sign, kept-flips}
use Rattle.orient_half.proofs.Surveyed.{searched-begun, surveyed-more}
use Rattle.sewing.proofs.PairWalks.{Contains-before}
use Rattle.orient_half.proofs.WholeLinks.{AreWhole}

-- from the first darts of the queue, up to next, each link was followed, and flips the signs
pub record IsSpread (n : ℕ) (Live : ℕ → Type 0) (L : Links) (first : ℕ) (old : Marks) (next : ℕ) (marks : Marks) (queue : List ℕ) : Type 0 where
  pub search : IsSearched n Live L first old marks queue
  pub queued : AreQueued marks queue
  pub done : (k i : ℕ) → k < next → i ≤ n → Flips L marks (get_or queue k 0) i

module _ (n : ℕ) (Live : ℕ → Type 0) (L : Links) (first : ℕ) (old : Marks) where
  pub spread-none : Live first → mark_at old first ≡ None → IsSurveyed n Live L first old → IsSpread n Live L first old 0 (slice_set old first (Some (mark true 0))) (first ∷ [])
  spread-none live fresh survey = record {
    search = search;
    queued = λ d has.
        let at : has.0 ≡ 0 = omega (arith, has.1) in
        subst (IsReached (slice_set old first (Some (mark true 0)))) (ap (λ (k : ℕ). get_or (first ∷ []) k d) (sym at) ∙ has.2)
        (reached-sign (mark_at (slice_set old first (Some (mark true 0))) first) true search.led.begun);
    done = λ k i low within. absurd (omega arith);
  }
    where
      search : IsSearched n Live L first old (slice_set old first (Some (mark true 0))) (first ∷ [])
      search = searched-begun n Live L first old live fresh survey

  pub spread-more : (next x : ℕ) (marks new : Marks) (queue after : List ℕ) → next < length queue → x ≡ get_or queue next 0 → IsSpread n Live L first old next marks queue → IsGrown n Live L marks new queue after → ((i : ℕ) → i ≤ n → Flips L new x i) → IsSpread n Live L first old (next + 1) new after
  spread-more next x marks new queue after low at spread grown flips = record {
    search = grown.searched first old spread.search;
    queued = grown.queued;
    done = λ k i below within. done k i (cases_lt k next) below within;
  }
    where
      stays : (k : ℕ) → k < length queue → get_or after k 0 ≡ get_or queue k 0
      stays k below = sym (get_or-take (length queue) after k 0 below) ∙ ap (λ (xs : List ℕ). get_or xs k 0) grown.behind

      done : (k i : ℕ) → (k < next) ⊎ (next ≤ k) → k < next + 1 → i ≤ n → Flips L new (get_or after k 0) i
      done k i (inl before) below within =
          subst (λ (d : ℕ). Flips L new d i) (sym (stays k (omega arith))) (kept-flips marks new grown.kept L (get_or queue k 0) i (spread.done k i before within))
      done k i (inr from) below within =
          let here_is : k ≡ next = omega arith in
          subst (λ (d : ℕ). Flips L new d i) (at ∙ (ap (λ (j : ℕ). get_or queue j 0) (sym here_is) ∙ sym (stays k (omega arith)))) (flips i within)

  pub spread-all : AreWhole n Live L → (next : ℕ) (marks : Marks) (queue : List ℕ) → Live first → length queue ≤ next → IsSurveyed n Live L first old → IsSpread n Live L first old next marks queue → IsSurveyed n Live L (first + 1) marks
  spread-all whole next marks queue live past survey spread =
      surveyed-more n Live L whole first next old marks queue live past survey spread.search spread.done

  -- a link from a dart of the queue leads to the same sign
  pub spread-clash : (next : ℕ) (marks new : Marks) (queue after : List ℕ) (x i : ℕ) → IsSpread n Live L first old next marks queue → IsGrown n Live L marks new queue after → i ≤ n → Clashes L new x i → MeetsClash n Live L first new x i
  spread-clash next marks new queue after x i spread grown within clash =
      let search : IsSearched n Live L first old new after = grown.searched first old spread.search in
      record { held = search.held; led = search.led; within = within; clashes = clash }

-- the links of a dart are followed, one after another
pub record IsVisited (n : ℕ) (Live : ℕ → Type 0) (L : Links) (x next : ℕ) (old new : Marks) (before after : List ℕ) : Type 0 where
  pub grown : IsGrown n Live L old new before after
  pub done : (i : ℕ) → i < next → Flips L new x i

pub visited-more : (n : ℕ) (Live : ℕ → Type 0) (L : Links) (x next : ℕ) (one two three : Marks) (before between after : List ℕ) → IsVisited n Live L x next one two before between → IsGrown n Live L two three between after → Flips L three x next → IsVisited n Live L x (next + 1) one three before after
visited-more n Live L x next one two three before between after visit grown flips = record {
  grown = grown-trans n Live L one two three before between after visit.grown grown;
  done = λ i low. done i (cases_lt i next) low;
}
  where
    done : (i : ℕ) → (i < next) ⊎ (next ≤ i) → i < next + 1 → Flips L three x i
    done i (inl below) low = kept-flips two three grown.kept L x i (visit.done i below)
    done i (inr from) low = let here_is : next ≡ i = omega arith in subst (Flips L three x) here_is flips

-- A link i of the dart x, which was reached in the way r, is followed to y, which gets the other sign unless it has one.
module _ (n : ℕ) (Live : ℕ → Type 0) (L : Links) (x i y : ℕ) (r : Reached) (one two three : Marks) (before between after : List ℕ)
    (known : mark_at one x ≡ Some r) (leads : y ≡ L i x) (visit : IsVisited n Live L x i one two before between) where
  pub followed-grown : AreWhole n Live L → i ≤ n → Contains before x → IsGiven two three between after y (mark (not r.positive) i) (mark_at two y) → IsGrown n Live L two three between after
  followed-grown whole within among given =
      given-grown n Live L whole two three between after x i y r visit.grown.held visit.grown.queued
      (Contains-before before between visit.grown.behind x among) (visit.grown.kept x r known) within leads given

  pub followed-flips : IsGrown n Live L two three between after → sign_at three y ≡ Some (not r.positive) → Flips L three x i
  followed-flips grown sign = (
    r.positive,
    sign-mark (mark_at three x) r (grown.kept x r (visit.grown.kept x r known)),
    ap (sign_at three) (sym leads) ∙ sign,
  )

  pub followed-clashes : IsGrown n Live L two three between after → sign_at three y ≡ Some (not (not r.positive)) → Clashes L three x i
  followed-clashes grown sign = (
    r.positive,
    sign-mark (mark_at three x) r (grown.kept x r (visit.grown.kept x r known)),
    ap (sign_at three) (sym leads) ∙ (sign ∙ ap Some (not-twice r.positive)),
  )
