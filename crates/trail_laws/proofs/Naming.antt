-- The marks that are told, one by one.
use Rattle.std.proofs.Common.{◌≡◌, ◌≢◌, ◌↔◌, ℕ, suc, ◌<◌, ◌≤◌, List, [], ◌∷◌, ◌++◌, length, get_or, take, map, Some, All, AllPairs, slice_get, sym, ap, ◌∙◌, subst, arith}
use Rattle.std.proofs.lemmas.List.{get_or-take, get_or-map, length-map, length-append}
use Rattle.std.proofs.lemmas.List.Elements.{All-map, All-weaker}
use Rattle.std.proofs.lemmas.Option.{slice_get-get_or, slice_get_within, same_Some}
use Rattle.machine_defs.specs.State.{Content, Mark, Undone}
use Rattle.machine_defs.specs.Marking.{IsMark, HasMark}
use Rattle.machine_defs.specs.Difference.{Difference}
use Rattle.machine_defs.specs.Kept.{IsLawfulContent, AreMarksKept, IsLawfulState}
use Rattle.journal_laws.specs.Following.{AllFollow, all_put_forward}
use Rattle.trail_laws.specs.Trails as trails
use Rattle.trail_laws.specs.Trails.{Placed, Ahead, Trail, standing_marks, place_of, forth, IsAhead, IsOrdered}
use Rattle.trail_laws.proofs.TrailFacts.{standing_length, mark_within, name_is_mark, place_read, ordered-alone}
use Rattle.trail_laws.specs.Told.{origin, contents_of, past_of, mark_of, undone_of, told, after_steps, IsTraced}
use Rattle.trail_laws.proofs.Along.{along-at}
use Rattle.trail_laws.proofs.Reading.{within, past-and-now, past-long, now-kept, past-kept, past-follow}
use Rattle.trail_laws.proofs.Redoing.{after-is, past-forth, marks-forth, traced-forth}

-- what stands where no mark is
abbrev no_mark : Placed
no_mark = record { name = []; place = 0 }

module _ (now : Content) (t : Trail) (o : IsOrdered t) where
  pub marks-long : length (map (mark_of now t) (standing_marks t)) ≡ t.standing
  marks-long = length-map (standing_marks t) (mark_of now t) ∙ standing_length t o

  mark-read : (k : ℕ) (e : Mark) → k < t.standing → get_or (map (mark_of now t) (standing_marks t)) k e ≡ mark_of now t (get_or t.marks k no_mark)
  mark-read k e h =
      get_or-map (mark_of now t) (standing_marks t) k no_mark e (let short = standing_length t o in omega arith)
      ∙ ap (mark_of now t) (get_or-take t.standing t.marks k no_mark h)

  mark-there : (k : ℕ) → k < t.standing → slice_get (map (mark_of now t) (standing_marks t)) k ≡ Some (mark_of now t (get_or t.marks k no_mark))
  mark-there k h =
      slice_get-get_or (map (mark_of now t) (standing_marks t)) k (mark_of now t no_mark) (let long = marks-long in omega arith)
      ∙ ap (λ (m : Mark). Some m) (mark-read k (mark_of now t no_mark) h)

  -- a standing mark is told
  pub mark-told : (name : List ℕ) (k : ℕ) → trails.IsMark t name k → (mark : Mark) × IsMark (told now t).marks name k mark
  mark-told name k is =
      let stands = mark_within t name k o is in
      let there : slice_get (told now t).marks k ≡ Some (mark_of now t (get_or t.marks k no_mark)) = mark-there k stands in
      let named : (get_or t.marks k no_mark).name ≡ name = same_Some (get_or t.marks k no_mark).name name (sym (name_is_mark t k no_mark o stands) ∙ is) in
      (mark_of now t (get_or t.marks k no_mark), record { there = there; named = named })

  module _ (name : List ℕ) (k : ℕ) (mark : Mark) (is : IsMark (told now t).marks name k mark) where
    pub mark-stands : k < t.standing
    mark-stands = let inside = slice_get_within (map (mark_of now t) (standing_marks t)) k mark is.there in let long = marks-long in omega arith

    mark-is : mark ≡ mark_of now t (get_or t.marks k no_mark)
    mark-is = same_Some mark (mark_of now t (get_or t.marks k no_mark)) (sym is.there ∙ mark-there k mark-stands)

    -- what is told as a mark stands
    pub trail-mark : trails.IsMark t name k
    trail-mark =
        let named : (get_or t.marks k no_mark).name ≡ name = ap (λ (m : Mark). m.name) (sym mark-is) ∙ is.named in
        subst (λ (n : List ℕ). trails.IsMark t n k) named (name_is_mark t k no_mark o mark-stands)

    place-here : (get_or t.marks k no_mark).place ≡ place_of t k
    place-here = sym (place_read t k no_mark (let stands = mark-stands in let short = o.standing in omega arith))

    pub mark-place : mark.place ≡ place_of t k
    mark-place = ap (λ (m : Mark). m.place) mark-is ∙ place-here

    pub mark-content : mark.content ≡ all_put_forward (take (place_of t k) t.steps) (origin now t)
    mark-content = ap (λ (m : Mark). m.content) mark-is ∙ ap (λ (n : ℕ). all_put_forward (take n t.steps) (origin now t)) place-here

  -- one has this name where the other has
  pub names-told : (name : List ℕ) → HasMark (told now t).marks name ↔ trails.HasMark t name
  names-told name = (
    λ (told-one : HasMark (told now t).marks name). (told-one.0, trail-mark name told-one.0 told-one.1 told-one.2),
    λ (one : trails.HasMark t name). let told-one = mark-told name one.0 one.1 in (one.0, told-one.0, told-one.1),
  )

  -- what holds of pairs of marks
  pairs-told : (R : Mark → Mark → Type 0) → AllPairs (λ (m n : Placed). R (mark_of now t m) (mark_of now t n)) t.marks → AllPairs R (told now t).marks
  pairs-told R all i j d l h =
      let long = marks-long in
      let stands : j < t.standing = omega arith in
      let earlier : i < t.standing = omega arith in
      let short = o.standing in
      let one : R (mark_of now t (get_or t.marks i no_mark)) (mark_of now t (get_or t.marks j no_mark)) = all i j no_mark l (omega arith) in
      let left = subst (λ (m : Mark). R m (mark_of now t (get_or t.marks j no_mark))) (sym (mark-read i d earlier)) one in
      subst (λ (m : Mark). R (get_or (told now t).marks i d) m) (sym (mark-read j d stands)) left

  pub names-differ : AllPairs (λ (m n : Mark). m.name ≢ n.name) (told now t).marks
  names-differ = pairs-told (λ (m n : Mark). m.name ≢ n.name) o.names_differ

  pub places-ascend : AllPairs (λ (m n : Mark). m.place ≤ n.place) (told now t).marks
  places-ascend = pairs-told (λ (m n : Mark). m.place ≤ n.place) o.ascending

  -- what holds of marks whose places are within
  each-told : (P : Mark → Type 0) → ((m : Placed) → m.place ≤ t.at → P (mark_of now t m)) → All P (told now t).marks
  each-told P all = All-map P (mark_of now t) (standing_marks t) (All-weaker (λ (m : Placed). m.place ≤ t.at) (λ (m : Placed). P (mark_of now t m)) all (standing_marks t) o.placed)

  module _ (h : IsTraced now t) where
    pub places-within : All (λ (m : Mark). m.place ≤ length (told now t).past) (told now t).marks
    places-within = each-told (λ (m : Mark). m.place ≤ length (told now t).past) (λ m low. let long = past-long now t h o in omega arith)

    -- each mark's copy is the content at its place
    pub copies-there : All (λ (m : Mark). slice_get ((told now t).past ++ now ∷ []) m.place ≡ Some m.content) (told now t).marks
    copies-there = each-told (λ (m : Mark). slice_get ((told now t).past ++ now ∷ []) m.place ≡ Some m.content) copy
      where
        copy : (m : Placed) → m.place ≤ t.at → slice_get (past_of now t ++ now ∷ []) m.place ≡ Some (all_put_forward (take m.place t.steps) (origin now t))
        copy m low =
            let long = past-long now t h o in
            let more = length-append (past_of now t) (now ∷ []) in
            let at = o.at in
            let front : get_or (past_of now t ++ now ∷ []) m.place now ≡ get_or (contents_of now t) m.place now =
            ap (λ (cs : List Content). get_or cs m.place now) (sym (past-and-now now t h o))
            ∙ get_or-take (suc t.at) (contents_of now t) m.place now (omega arith) in
            slice_get-get_or (past_of now t ++ now ∷ []) m.place now (omega arith)
            ∙ ap (λ (c : Content). Some c) (front ∙ along-at t.steps (origin now t) m.place now (omega arith))

    -- the copies of marks are lawful
    pub marks-kept : All (λ (m : Mark). IsLawfulContent m.content) (told now t).marks
    marks-kept = each-told (λ (m : Mark). IsLawfulContent m.content) copy
      where
        copy : (m : Placed) → m.place ≤ t.at → IsLawfulContent (all_put_forward (take m.place t.steps) (origin now t))
        copy m low =
            subst (λ (c : Content). IsLawfulContent c) (along-at t.steps (origin now t) m.place now (let at = o.at in omega arith))
            (h.kept m.place now (within now t h o m.place low))

    pub marks-marked : AreMarksKept (told now t).marks (told now t).past now
    marks-marked = record { named = names-differ; rising = places-ascend; within = places-within; nothing = nothing; copies = copies-there }
      where
        nothing : (told now t).marks ≡ [] → (told now t).past ≡ []
        nothing none =
            let bare : t.standing ≡ 0 = sym marks-long ∙ ap (λ (ms : List Mark). length ms) none in
            let at = o.at in
            let short = ap (λ (ss : List Difference). length ss) (h.unmarked bare) in
            ap (λ (n : ℕ). take n (contents_of now t)) (let zero-at : t.at ≡ 0 = omega arith in zero-at)

-- what holds of the parts of what was undone
abbrev pub IsUndoneKept : Undone → Type 0
IsUndoneKept u = IsLawfulContent u.present × All IsLawfulContent u.past × All (λ m. IsLawfulContent m.content) u.marks × AreMarksKept u.marks u.past u.present

module _ (now : Content) (t : Trail) (o : IsOrdered t) (h : IsTraced now t) where
  -- what an undo took back is told of the trail with the cursors of then
  module _ (u : Ahead) (is : IsAhead t.steps t.at t.marks u) where
    abbrev then : Content
    then = after_steps now t u

    abbrev before : Trail
    before = forth t [] u

    order-then : IsOrdered before
    order-then = ordered-alone t u o is

    traced-then : IsTraced then before
    traced-then = traced-forth now t [] u h o is

    undone-is : record { name = (undone_of now t u).name; present = then; past = past_of then before; marks = (told then before).marks } ≡ undone_of now t u
    undone-is = λ i. record {
      name = (undone_of now t u).name;
      present = after-is now t [] u h o is i;
      past = past-forth now t [] u h o is i;
      marks = marks-forth now t [] u h o is i;
    }

    undone-kept : IsUndoneKept (undone_of now t u)
    undone-kept =
        subst IsUndoneKept undone-is (
          now-kept then before traced-then order-then,
          past-kept then before traced-then order-then,
          marks-kept then before order-then traced-then,
          marks-marked then before order-then traced-then,
        )

    undone-follows : AllFollow ((undone_of now t u).past ++ (undone_of now t u).present ∷ [])
    undone-follows = subst (λ (v : Undone). AllFollow (v.past ++ v.present ∷ [])) undone-is (past-follow then before traced-then order-then)

  each-undone : (P : Undone → Type 0) → ((u : Ahead) → IsAhead t.steps t.at t.marks u → P (undone_of now t u)) → All P (told now t).undone
  each-undone P all = All-map P (undone_of now t) t.undone (All-weaker (IsAhead t.steps t.at t.marks) (λ (u : Ahead). P (undone_of now t u)) all t.undone o.ahead)

  -- every content that is told is lawful
  pub all-kept : IsLawfulState (told now t)
  all-kept = record {
    present = now-kept now t h o;
    past = past-kept now t h o;
    marks = marks-kept now t o h;
    marked = marks-marked now t o h;
    undone = each-undone IsUndoneKept undone-kept;
  }

  -- and in what an undo took back each content follows the one before it too
  pub undone-follow : All (λ (u : Undone). AllFollow (u.past ++ u.present ∷ [])) (told now t).undone
  undone-follow = each-undone (λ (u : Undone). AllFollow (u.past ++ u.present ∷ [])) undone-follows
