-- Ways back to the first dart of a component, and the odd walk that two of them make.
use Rattle.std.proofs.Common.{ℕ, ◌≡◌, ◌≢◌, ◌≤◌, ◌+◌, ◌%◌, refl, sym, ap, subst, ◌∙◌, append_assoc, Bool, true, not, Some, List, [], ◌∷◌, ◌++◌, reverse, length, All, arith}
use Rattle.std.proofs.lemmas.List.{append-nil, length_push, length-append, length-reverse, reverse-append}
use Rattle.std.proofs.lemmas.List.Elements.{All-nil, All-push, All-append}
use Rattle.map_defs.specs.Links.{Links}
use Rattle.half_defs.specs.Orientation.{walked, IsOddWalk}
use Rattle.orient_half.specs.declared.search.Reached.{Reached}
use Rattle.orient_half.specs.Marks.{Marks, mark_at, sign_at, IsReached, LeadsBack, AreHeld, Clashes}
use Rattle.orient_half.specs.Told.{odd_links, IsWayBack}
use Rattle.orient_half.proofs.EvenWalks.{odd_links-none, odd_links-more, odd_links-all, odd_links-both}
use Rattle.orient_half.proofs.MarkFacts.{Some-one, sign-mark, reached-sign}
use Rattle.orient_half.proofs.WholeLinks.{AreWhole, walked-append, walked-reverse, All-tail}

pub All-reverse : {X : Type 0} (P : X → Type 0) (xs : List X) → All P xs → All P (reverse xs)
All-reverse P [] all = all
All-reverse P (x ∷ xs) all =
    let t : P x × All P xs = All-tail P x xs all in
    subst (All P) (sym (reverse-append (x ∷ []) xs)) (All-push P (reverse xs) x (All-reverse P xs t.1) t.0)

-- These links lead from d to here, each the link by which a dart was reached.
pub record LeadBack (n : ℕ) (L : Links) (marks : Marks) (d here : ℕ) (links : List ℕ) : Type 0 where
  pub within : All (λ i. i ≤ n) links
  pub leads : walked L d links ≡ here
  pub parity : (b c : Bool) → sign_at marks d ≡ Some b → sign_at marks here ≡ Some c → (length links + odd_links b) % 2 ≡ odd_links c
  pub reached : IsReached marks here

module _ (n : ℕ) (L : Links) (marks : Marks) where
  pub back-none : (d : ℕ) → IsReached marks d → LeadBack n L marks d d []
  back-none d reached = record {
    within = All-nil (λ i. i ≤ n);
    leads = refl;
    parity = λ b c e f. odd_links-none b ∙ ap odd_links (Some-one b c (sym e ∙ f));
    reached = reached;
  }

  pub back-more : (d here : ℕ) (r : Reached) (links : List ℕ) → mark_at marks here ≡ Some r → r.link ≤ n → sign_at marks (L r.link here) ≡ Some (not r.positive) → LeadBack n L marks d here links → LeadBack n L marks d (L r.link here) (links ++ r.link ∷ [])
  back-more d here r links known within turns way = record {
    within = All-push (λ i. i ≤ n) links r.link way.within within;
    leads = walked-append L d links (r.link ∷ []) ∙ ap (L r.link) way.leads;
    parity = λ b c e f.
        ap (λ (count : ℕ). (count + odd_links b) % 2) (length_push links r.link)
        ∙ (odd_links-more (length links) b r.positive (way.parity b r.positive e (sign-mark (mark_at marks here) r known))
        ∙ ap odd_links (Some-one (not r.positive) c (sym turns ∙ f)));
    reached = reached-sign (mark_at marks (L r.link here)) (not r.positive) turns;
  }

  pub back-all : (first d : ℕ) (links : List ℕ) → sign_at marks first ≡ Some true → LeadBack n L marks d first links → IsWayBack n L first marks d links
  back-all first d links begun way = record {
    within = way.within;
    leads = way.leads;
    parity = λ b e. odd_links-all (length links) b (way.parity b true e begun);
  }

-- what was put behind the walk leads from d to here
abbrev pub HasWay : ℕ → Links → Marks → ℕ → ℕ → List ℕ → List ℕ → Type 0
HasWay n L marks d at old items = (way : List ℕ) × (items ≡ old ++ way) × LeadBack n L marks d at way

pub way-none : (n : ℕ) (L : Links) (marks : Marks) (d : ℕ) (old : List ℕ) → IsReached marks d → HasWay n L marks d d old old
way-none n L marks d old reached = ([], sym (append-nil old), back-none n L marks d reached)

pub way-more : (n : ℕ) (Live : ℕ → Type 0) (L : Links) (marks : Marks) (first d at next link : ℕ) (r : Reached) (old items new : List ℕ) → AreHeld n Live marks → LeadsBack L first marks → mark_at marks at ≡ Some r → at ≢ first → link ≡ r.link → next ≡ L link at → new ≡ items ++ link ∷ [] → HasWay n L marks d at old items → HasWay n L marks d next old new
way-more n Live L marks first d at next link r old items new held led known apart is leads put way = (
  way.0 ++ link ∷ [],
  put ∙ (ap (λ (xs : List ℕ). xs ++ link ∷ []) way.1 ∙ append_assoc old way.0 (link ∷ [])),
  subst (λ (x : ℕ). LeadBack n L marks d x (way.0 ++ link ∷ [])) (ap (λ (i : ℕ). L i at) (sym is) ∙ sym leads)
      (subst (λ (i : ℕ). LeadBack n L marks d (L r.link at) (way.0 ++ i ∷ [])) (sym is)
      (back-more n L marks d at r way.0 known (held.within at r known) (led.back at r known apart) way.2)),
)

pub way-all : (n : ℕ) (L : Links) (marks : Marks) (first d at : ℕ) (old items : List ℕ) → LeadsBack L first marks → at ≡ first → HasWay n L marks d at old items → (way : List ℕ) × (items ≡ old ++ way) × IsWayBack n L first marks d way
way-all n L marks first d at old items led is way =
    (way.0, way.1, back-all n L marks first d way.0 led.begun (subst (λ (x : ℕ). LeadBack n L marks d x way.0) is way.2))

-- from the first dart to the clash, along its link, and back
pub odd-walk : (n : ℕ) (Live : ℕ → Type 0) (L : Links) (marks : Marks) (first x i : ℕ) (one other : List ℕ) → AreWhole n Live L → Live x → i ≤ n → Clashes L marks x i → IsWayBack n L first marks x one → IsWayBack n L first marks (L i x) other → IsOddWalk n L first ((reverse one ++ i ∷ []) ++ other)
odd-walk n Live L marks first x i one other whole live within clash there back = record {
  within = All-append (λ j. j ≤ n) (reverse one ++ i ∷ []) other (All-push (λ j. j ≤ n) (reverse one) i (All-reverse (λ j. j ≤ n) one there.within) within) back.within;
  closed =
      walked-append L first (reverse one ++ i ∷ []) other
      ∙ (ap (λ (d : ℕ). walked L d other) (walked-append L first (reverse one) (i ∷ []) ∙ ap (L i) to)
      ∙ back.leads);
  odd = ap (λ (count : ℕ). count % 2) long ∙ odd_links-both (length one) (length other) clash.0 (there.parity clash.0 clash.1) (back.parity clash.0 clash.2);
}
  where
    to : walked L first (reverse one) ≡ x
    to = ap (λ (d : ℕ). walked L d (reverse one)) (sym there.leads) ∙ walked-reverse n Live L whole x one live there.within

    long : length ((reverse one ++ i ∷ []) ++ other) ≡ length one + 1 + length other
    long = omega (arith, length-append (reverse one ++ i ∷ []) other, length_push (reverse one) i, length-reverse one)
