-- Going back to a mark.
use Rattle.std.proofs.Common.{◌≡◌, ℕ, ◌+◌, ◌<◌, ◌≤◌, List, [], ◌∷◌, ◌++◌, get_or, take, drop, map, All, sym, ap, ◌∙◌, subst, arith}
use Rattle.std.proofs.lemmas.List.{take-take, take-append-drop, take-map, map_push, drop-append-le}
use Rattle.machine_defs.specs.State.{Content, Mark, Undone}
use Rattle.machine_defs.specs.Marking.{IsMark, undone_to, back_to, since}
use Rattle.machine_defs.specs.Difference.{Difference, AreDifferences}
use Rattle.machine_defs.specs.Kept.{IsLawfulContent}
use Rattle.journal_laws.specs.Following.{AllFollow, all_put_forward, all_taken_back}
use Rattle.trail_laws.specs.Trails as trails
use Rattle.trail_laws.specs.Trails.{Placed, Trail, standing_steps, standing_marks, mark_names, steps_since, place_of, undo_at, back, IsOrdered}
use Rattle.trail_laws.proofs.TrailFacts.{mark_within, place_within, name_read}
use Rattle.trail_laws.specs.Told.{origin, contents_along, contents_of, past_of, mark_of, undone_of, told, before_steps, IsTraced}
use Rattle.trail_laws.proofs.Along.{back-append, differences-rest}
use Rattle.trail_laws.proofs.Reading.{past-long, past-differ, taken-is}
use Rattle.trail_laws.proofs.Noting.{map-same}
use Rattle.trail_laws.proofs.Naming.{mark-told, mark-place, mark-content, trail-mark}
use Rattle.trail_laws.proofs.Redoing.{undone_from}

module _ (now : Content) (t : Trail) (name : List ℕ) (k : ℕ) (h : IsTraced now t) (o : IsOrdered t) (stands : k < t.standing) where
  low : place_of t k ≤ t.at
  low = place_within t k o stands

  -- the content that an undo gives is the one that the mark copied
  pub before-is : before_steps now t k ≡ all_put_forward (take (place_of t k) t.steps) (origin now t)
  before-is = taken-is now t h o (place_of t k) low

  -- the first content stays
  pub origin-back : origin (before_steps now t k) (back t k) ≡ origin now t
  origin-back =
      ap (λ (ss : List Difference). all_taken_back ss (before_steps now t k)) (sym (take-take (place_of t k) t.at t.steps low))
      ∙ sym (back-append (take (place_of t k) (standing_steps t)) (steps_since t k) now)
      ∙ ap (λ (ss : List Difference). all_taken_back ss now) (take-append-drop (place_of t k) (standing_steps t))

  -- and with it all contents that the steps lead through
  pub contents-back : contents_of (before_steps now t k) (back t k) ≡ contents_of now t
  contents-back = ap (λ (c : Content). contents_along t.steps c) origin-back

  past-back : past_of (before_steps now t k) (back t k) ≡ take (place_of t k) (past_of now t)
  past-back = ap (λ (cs : List Content). take (place_of t k) cs) contents-back ∙ sym (take-take (place_of t k) t.at (contents_of now t) low)

  marks-back : map (mark_of (before_steps now t k) (back t k)) (take (k + 1) t.marks) ≡ take (k + 1) (map (mark_of now t) (standing_marks t))
  marks-back =
      map-same (mark_of (before_steps now t k) (back t k)) (mark_of now t) (take (k + 1) t.marks) each
      ∙ ap (λ (ms : List Placed). map (mark_of now t) ms) (sym (take-take (k + 1) t.standing t.marks (omega arith)))
      ∙ sym (take-map (mark_of now t) (k + 1) (standing_marks t))
    where
      one : (m : Placed) → mark_of (before_steps now t k) (back t k) m ≡ mark_of now t m
      one m = λ i. record { name = m.name; content = all_put_forward (take m.place t.steps) (origin-back i); place = m.place }

      each : All (λ (m : Placed). mark_of (before_steps now t k) (back t k) m ≡ mark_of now t m) (take (k + 1) t.marks)
      each j d inside = one (get_or (take (k + 1) t.marks) j d)

  pub traced-back : IsTraced (before_steps now t k) (back t k)
  traced-back = record {
    here = ap (λ (c : Content). all_put_forward (take (place_of t k) t.steps) c) origin-back ∙ sym before-is;
    kept = subst (λ (cs : List Content). All IsLawfulContent cs) (sym contents-back) h.kept;
    follow = subst (λ (cs : List Content). AllFollow cs) (sym contents-back) h.follow;
    steps = subst (λ (cs : List Content). AreDifferences cs t.steps) (sym contents-back) h.steps;
    unmarked = λ none. absurd (omega arith);
  }

  module _ (mark : Mark) (is : IsMark (told now t).marks name k mark) where
    pub mark-before : mark.content ≡ before_steps now t k
    mark-before = mark-content now t o name k mark is ∙ sym before-is

    -- what was undone before is told as before, and this undo behind it
    undone-back : map (undone_of (before_steps now t k) (back t k)) (t.undone ++ undo_at t k ∷ []) ≡ map (undone_of now t) t.undone ++ undone_to (told now t) mark ∷ []
    undone-back =
        let named : get_or (map (λ (m : Placed). m.name) t.marks) k [] ≡ mark.name =
        name_read t name k o (trail-mark now t o name k mark is) ∙ sym is.named in
        let here : undone_of now t (undo_at t k) ≡ undone_to (told now t) mark =
        λ i. record { name = named i; present = h.here i; past = past_of now t; marks = map (mark_of now t) (standing_marks t) } in
        ap (λ (c : Content). map (undone_from c t) (t.undone ++ undo_at t k ∷ [])) origin-back
        ∙ map_push (undone_of now t) t.undone (undo_at t k)
        ∙ ap (λ (u : Undone). map (undone_of now t) t.undone ++ u ∷ []) here

    pub told-back : told (before_steps now t k) (back t k) ≡ back_to (told now t) k mark
    told-back =
        let place : mark.place ≡ place_of t k = mark-place now t o name k mark is in
        let past : past_of (before_steps now t k) (back t k) ≡ take mark.place (past_of now t) =
        past-back ∙ ap (λ (n : ℕ). take n (past_of now t)) (sym place) in
        let present : before_steps now t k ≡ mark.content = sym mark-before in
        λ i. record { present = present i; past = past i; marks = marks-back i; undone = undone-back i }

    -- the steps since the mark are the differences of the contents since then
    pub differ-since : AreDifferences (since (told now t) mark) (steps_since t k)
    differ-since =
        let place : mark.place ≡ place_of t k = mark-place now t o name k mark is in
        let long = past-long now t h o in
        let small = low in
        let rest : drop (place_of t k) (past_of now t ++ now ∷ []) ≡ since (told now t) mark =
        drop-append-le (place_of t k) (past_of now t) (now ∷ []) (omega arith)
        ∙ ap (λ (n : ℕ). drop n (past_of now t) ++ now ∷ []) (sym place) in
        subst (λ (cs : List Content). AreDifferences cs (steps_since t k)) rest
        (differences-rest (place_of t k) (past_of now t ++ now ∷ []) (standing_steps t) (past-differ now t h o))

-- a mark that stands: what going back to it gives
pub gone-back : (now : Content) (t : Trail) (name : List ℕ) (k : ℕ) → IsTraced now t → IsOrdered t → trails.IsMark t name k
    → (mark : Mark) × IsMark (told now t).marks name k mark × (mark.content ≡ before_steps now t k)
    × (told (before_steps now t k) (back t k) ≡ back_to (told now t) k mark) × IsTraced (before_steps now t k) (back t k)
gone-back now t name k h o is =
    let stands = mark_within t name k o is in
    let one = mark-told now t o name k is in
    (one.0, one.1, mark-before now t name k h o stands one.0 one.1, told-back now t name k h o stands one.0 one.1, traced-back now t name k h o stands)
