-- A step that was noted.
use Rattle.std.proofs.Common.{◌≡◌, ◌≢◌, ℕ, ◌+◌, ◌≤◌, List, [], ◌∷◌, ◌++◌, length, take, map, All, refl, sym, ap, ap₂, ◌∙◌, subst, arith, append_assoc}
use Rattle.std.proofs.lemmas.List.{take_all, take_at, take-take, take-append-le, length-take-le, length-append, length-map}
use Rattle.std.proofs.lemmas.List.Elements.{All-head, All-tail, All-nil, All-cons, All-push, All-weaker}
use Rattle.machine_defs.specs.State.{Content, Mark, kept_past, steps_to}
use Rattle.machine_defs.specs.Difference.{Difference, IsDifference, AreDifferences, put_forward}
use Rattle.machine_defs.specs.Kept.{IsLawfulContent}
use Rattle.journal_laws.specs.Following.{Follows, AllFollow, all_put_forward, all_taken_back}
use Rattle.journal_laws.proofs.Leading.{leads-on, leads-back}
use Rattle.journal_laws.proofs.Chains.{follow-more, differences-more}
use Rattle.trail_laws.specs.Trails.{Placed, Ahead, Trail, empty_trail, standing_steps, standing_marks, noted, IsOrdered}
use Rattle.trail_laws.proofs.TrailFacts.{standing_length}
use Rattle.trail_laws.specs.Told.{origin, contents_along, contents_of, past_of, mark_of, undone_of, told, IsTraced}
use Rattle.trail_laws.proofs.Along.{along-push, forward-push, back-append}
use Rattle.trail_laws.proofs.Reading.{along-standing, past-long, past-kept, past-follow, past-differ, now-kept}

-- two functions that agree on each element
pub map-same : {X Y : Type 0} (f g : X → Y) (xs : List X) → All (λ (x : X). f x ≡ g x) xs → map f xs ≡ map g xs
map-same f g [] same = refl
map-same f g (x ∷ xs) same = ap₂ ◌∷◌ (All-head (λ x. f x ≡ g x) x xs same) (map-same f g xs (All-tail (λ x. f x ≡ g x) x xs same))

-- while a mark stands the past is kept
past-more : (ms : List Mark) (past : List Content) (c : Content) → length ms ≢ 0 → kept_past ms past c ≡ past ++ c ∷ []
past-more [] past c some = absurd (some refl)
past-more (m ∷ ms) past c some = refl

-- the beginning, and steps without a mark
pub told-begun : (now : Content) → told now empty_trail ≡ record { present = now; past = []; marks = []; undone = [] }
told-begun now = refl

pub traced-begun : (now : Content) → IsLawfulContent now → IsTraced now empty_trail
traced-begun now kept = record {
  here = refl;
  kept = All-cons IsLawfulContent now [] kept (All-nil IsLawfulContent);
  follow = tt;
  steps = refl;
  unmarked = λ none. refl;
}

pub no-steps : (now : Content) (t : Trail) → IsTraced now t → IsOrdered t → t.standing ≡ 0 → t.at ≡ 0
no-steps now t h o none = let e = ap (λ (ss : List Difference). length ss) (h.unmarked none) in let at = o.at in omega arith

module _ (now next : Content) (t : Trail) (h : IsTraced now t) (o : IsOrdered t) (none : t.standing ≡ 0) (kept : IsLawfulContent next) where
  at-begin : t.at ≡ 0
  at-begin = no-steps now t h o none

  past-unmarked : (c : Content) → past_of c t ≡ []
  past-unmarked c = ap (λ (n : ℕ). take n (contents_of c t)) at-begin

  marks-unmarked : (c : Content) → map (mark_of c t) (standing_marks t) ≡ []
  marks-unmarked c = ap (λ (n : ℕ). map (mark_of c t) (take n t.marks)) none

  origin-unmarked : origin next t ≡ next
  origin-unmarked = ap (λ (n : ℕ). all_taken_back (take n t.steps) next) at-begin

  contents-unmarked : contents_of next t ≡ next ∷ []
  contents-unmarked = ap₂ contents_along (h.unmarked none) origin-unmarked

  pub told-unmarked : told next t ≡ steps_to (told now t) next
  told-unmarked =
      let past : past_of next t ≡ kept_past (map (mark_of now t) (standing_marks t)) (past_of now t) now =
      past-unmarked next ∙ sym (ap (λ (ms : List Mark). kept_past ms (past_of now t) now) (marks-unmarked now)) in
      let marks : map (mark_of next t) (standing_marks t) ≡ map (mark_of now t) (standing_marks t) =
      marks-unmarked next ∙ sym (marks-unmarked now) in
      let undone : map (undone_of next t) t.undone ≡ [] = ap (λ (us : List Ahead). map (undone_of next t) us) (o.begun none) in
      λ i. record { present = next; past = past i; marks = marks i; undone = undone i }

  pub traced-unmarked : IsTraced next t
  traced-unmarked = record {
    here = ap (λ (n : ℕ). all_put_forward (take n t.steps) (origin next t)) at-begin ∙ origin-unmarked;
    kept = subst (λ (cs : List Content). All IsLawfulContent cs) (sym contents-unmarked) (All-cons IsLawfulContent next [] kept (All-nil IsLawfulContent));
    follow = subst (λ (cs : List Content). AllFollow cs) (sym contents-unmarked) tt;
    steps = subst (λ (cs : List Content). AreDifferences cs t.steps) (sym contents-unmarked) (h.unmarked none);
    unmarked = h.unmarked;
  }

module _ (now next : Content) (t : Trail) (s : Difference) (h : IsTraced now t) (o : IsOrdered t) (kept : IsLawfulContent next) (f : Follows now next)
    (is : IsDifference now next s) (some : t.standing ≢ 0) where
  standing-long : length (standing_steps t) ≡ t.at
  standing-long = length-take-le t.at t.steps o.at

  standing-noted : standing_steps (noted t s) ≡ standing_steps t ++ s ∷ []
  standing-noted =
      take_all (t.at + 1) (standing_steps t ++ s ∷ [])
      (let long = length-append (standing_steps t) (s ∷ []) in let short = standing-long in omega arith)

  -- the first content stays
  pub origin-noted : origin next (noted t s) ≡ origin now t
  origin-noted =
      ap (λ (ss : List Difference). all_taken_back ss next) standing-noted
      ∙ back-append (standing_steps t) (s ∷ []) next
      ∙ ap (λ (c : Content). all_taken_back (standing_steps t) c) (leads-back now next s f is)

  put-next : put_forward s (all_put_forward (standing_steps t) (origin now t)) ≡ next
  put-next = ap (λ (c : Content). put_forward s c) h.here ∙ leads-on now next s f is

  -- and the present one comes to the past
  contents-noted : contents_of next (noted t s) ≡ (past_of now t ++ now ∷ []) ++ next ∷ []
  contents-noted =
      ap (λ (c : Content). contents_along (standing_steps t ++ s ∷ []) c) origin-noted
      ∙ along-push (standing_steps t) s (origin now t)
      ∙ ap₂ (λ (cs : List Content) (c : Content). cs ++ c ∷ []) (along-standing now t h o) put-next

  contents-row : contents_of next (noted t s) ≡ past_of now t ++ now ∷ next ∷ []
  contents-row = contents-noted ∙ append_assoc (past_of now t) (now ∷ []) (next ∷ [])

  past-noted : past_of next (noted t s) ≡ past_of now t ++ now ∷ []
  past-noted =
      ap (λ (cs : List Content). take (t.at + 1) cs) contents-noted
      ∙ take_at (past_of now t ++ now ∷ []) (next ∷ []) (t.at + 1)
      (let long = length-append (past_of now t) (now ∷ []) in let short = past-long now t h o in omega arith)

  mark-noted : (m : Placed) → m.place ≤ t.at → mark_of next (noted t s) m ≡ mark_of now t m
  mark-noted m low =
      let steps : take m.place (standing_steps t ++ s ∷ []) ≡ take m.place t.steps =
      take-append-le m.place (standing_steps t) (s ∷ []) (let short = standing-long in omega arith) ∙ take-take m.place t.at t.steps low in
      λ i. record { name = m.name; content = all_put_forward (steps i) (origin-noted i); place = m.place }

  marks-noted : map (mark_of next (noted t s)) (standing_marks (noted t s)) ≡ map (mark_of now t) (standing_marks t)
  marks-noted =
      ap (λ (ms : List Placed). map (mark_of next (noted t s)) ms) (take-take t.standing t.standing t.marks (omega arith))
      ∙ map-same (mark_of next (noted t s)) (mark_of now t) (standing_marks t)
      (All-weaker (λ (m : Placed). m.place ≤ t.at) (λ (m : Placed). mark_of next (noted t s) m ≡ mark_of now t m) mark-noted (standing_marks t) o.placed)

  marks-some : length (map (mark_of now t) (standing_marks t)) ≢ 0
  marks-some e = some (let long = length-map (standing_marks t) (mark_of now t) in let short = standing_length t o in omega arith)

  pub told-noted : told next (noted t s) ≡ steps_to (told now t) next
  told-noted =
      let past : past_of next (noted t s) ≡ kept_past (map (mark_of now t) (standing_marks t)) (past_of now t) now =
      past-noted ∙ sym (past-more (map (mark_of now t) (standing_marks t)) (past_of now t) now marks-some) in
      λ i. record { present = next; past = past i; marks = marks-noted i; undone = [] }

  pub traced-noted : IsTraced next (noted t s)
  traced-noted = record {
    here = ap₂ (λ (ss : List Difference) (c : Content). all_put_forward ss c) standing-noted origin-noted ∙ forward-push (standing_steps t) s (origin now t) ∙ put-next;
    kept =
        subst (λ (cs : List Content). All IsLawfulContent cs) (sym contents-noted)
        (All-push IsLawfulContent (past_of now t ++ now ∷ []) next (All-push IsLawfulContent (past_of now t) now (past-kept now t h o) (now-kept now t h o)) kept);
    follow = subst (λ (cs : List Content). AllFollow cs) (sym contents-row) (follow-more (past_of now t) now next (past-follow now t h o) f);
    steps =
        subst (λ (cs : List Content). AreDifferences cs (standing_steps t ++ s ∷ [])) (sym contents-row)
        (differences-more (past_of now t) now next (standing_steps t) s (past-differ now t h o) is);
    unmarked = λ none. absurd (some none);
  }
