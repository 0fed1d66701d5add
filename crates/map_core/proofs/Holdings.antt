-- A map keeps places for all contents of its trail, whatever is done.
use Rattle.std.proofs.Common.{◌≡◌, ◌≢◌, ℕ, zero, suc, ◌+◌, ◌-◌, ◌<◌, ◌≤◌, ◌↔◌, Bool, true, false, IsTrue, Option, Some, None, List, [], ◌∷◌, ◌++◌, length, take, drop, map, get_or, refl, sym, ap, ap₂, subst, ◌∙◌, append_assoc, arith}
use Rattle.map_defs.specs.Rows.{made, live_count}
use Rattle.machine_defs.specs.State.{Content}
use Rattle.machine_defs.specs.Difference.{Difference, IsDifference, put_forward}
use Rattle.map_defs.specs.Values.{Hook}
use Rattle.machine_defs.specs.Kept.{IsLawfulContent, AreRulesKnown, KnowsRules}
use Rattle.machine_laws.proofs.KnownRules.{same-known, next-known, marked-known, back-known, forth-known, state-known}
use Rattle.journal_laws.specs.Following.{Follows, all_put_forward, all_taken_back}
use Rattle.journal_laws.proofs.Leading.{leads-on}
use Rattle.trail_laws.specs.Trails.{Ahead, Trail, empty_trail, standing_steps, steps_since, steps_ahead, place_of, noted, marked, back, forth, IsLastAhead, IsOrdered}
use Rattle.trail_laws.specs.Trails as trails
use Rattle.trail_laws.proofs.TrailFacts.{mark_within, last-ahead}
use Rattle.trail_laws.specs.Told.{told, origin, contents_along, contents_of, past_of, undone_of, before_steps, after_steps, IsTraced}
use Rattle.trail_laws.proofs.Along.{along-push}
use Rattle.trail_laws.proofs.Reading.{within, along-standing, past-and-now}
use Rattle.trail_laws.proofs.Noting.{origin-noted, told-begun}
use Rattle.trail_laws.proofs.Marking.{origin-marked, told-marked}
use Rattle.trail_laws.proofs.Returning.{contents-back, gone-back}
use Rattle.trail_laws.proofs.Redoing.{contents-forth, told-forth}
use Rattle.trail_laws.proofs.UndoneNames.{ahead-told}
use Rattle.trail_laws.proofs.Between.{since-long, between-is, between-differ}
use Rattle.valued_map.specs.Holding.{Holding}
use Rattle.valued_map.specs.Told.{IsTold, IsStep}
use Rattle.valued_map.specs.Undoing.{HasRoomFor, no_step}
use Rattle.map_core.specs.Held.{HasPlacesFor, HasPlacesForAll, IsHeld}
use Rattle.map_core.specs.Noted.{advanced}
use Rattle.map_core.proofs.Stepped.{none-stands, told-advanced, traced-advanced}

-- more places are enough too
places-more : (p q : ℕ) → p ≤ q → (cs : List Content) → HasPlacesForAll p cs → HasPlacesForAll q cs
places-more p q more [] room = tt
places-more p q more (a ∷ []) room = tt
places-more p q more (a ∷ b ∷ cs) (one, room) = (omega (arith, more, one), places-more p q more (b ∷ cs) room)

-- so are they for the first contents, and for one more
places-front : (p n : ℕ) (cs : List Content) → HasPlacesForAll p cs → HasPlacesForAll p (take n cs)
places-front p zero cs room = tt
places-front p (suc n) [] room = tt
places-front p (suc zero) (a ∷ cs) room = tt
places-front p (suc (suc n)) (a ∷ []) room = tt
places-front p (suc (suc n)) (a ∷ b ∷ cs) (one, room) = (one, places-front p (suc n) (b ∷ cs) room)

places-push : (p : ℕ) (cs : List Content) (a b : Content) → HasPlacesForAll p (cs ++ a ∷ []) → HasPlacesFor p a b → HasPlacesForAll p (cs ++ a ∷ b ∷ [])
places-push p [] a b room last = (last, tt)
places-push p (c ∷ []) a b (one, room) last = (one, (last, tt))
places-push p (c ∷ d ∷ cs) a b (one, room) last = (one, places-push p (d ∷ cs) a b room last)

places-at : (p : ℕ) (cs : List Content) (i : ℕ) (d : Content) → HasPlacesForAll p cs → suc i < length cs → HasPlacesFor p (get_or cs i d) (get_or cs (suc i) d)
places-at p [] i d room h = absurd (omega arith)
places-at p (a ∷ []) i d room h = absurd (omega arith)
places-at p (a ∷ b ∷ cs) zero d (one, room) h = one
places-at p (a ∷ b ∷ cs) (suc i) d (one, room) h = places-at p (b ∷ cs) i d room (omega arith)

-- the present content is the last of those that stand
module _ (p : ℕ) (now : Content) (t : Trail) (h : IsTraced now t) (o : IsOrdered t) (room : HasPlacesForAll p (contents_of now t)) where
  places-standing : HasPlacesForAll p (past_of now t ++ now ∷ [])
  places-standing = subst (λ (cs : List Content). HasPlacesForAll p cs) (past-and-now now t h o) (places-front p (suc t.at) (contents_of now t) room)

  places-marked : (name : List ℕ) → HasPlacesForAll p (contents_of now (marked t name))
  places-marked name =
      let is : contents_of now (marked t name) ≡ past_of now t ++ now ∷ [] =
      ap (λ (c : Content). contents_along (standing_steps t) c) (origin-marked now t name h o) ∙ along-standing now t h o in
      subst (λ (cs : List Content). HasPlacesForAll p cs) (sym is) places-standing

-- where no step stands or lies ahead there is one content
places-alone : (p : ℕ) (ss : List Difference) (c : Content) → ss ≡ [] → HasPlacesForAll p (contents_along ss c)
places-alone p [] c none = tt
places-alone p (s ∷ ss) c none = absurd (let long = ap (λ (xs : List Difference). length xs) none in omega arith)

pub held-begun : (hook : Hook) (map : Holding) (t : Trail) → t ≡ empty_trail → IsTraced map.content t → AreRulesKnown hook map.content → IsHeld hook map t
held-begun hook map t begun traced known = record {
  traced = traced;
  room = places-alone map.places t.steps (origin map.content t) (ap (λ (u : Trail). u.steps) begun);
  known = subst (KnowsRules hook) (sym (ap (told map.content) begun ∙ told-begun map.content)) (state-known hook map.content known);
}

-- where no mark stands
pub held-unmarked : (hook : Hook) (map : Holding) (t : Trail) → t.standing ≡ 0 → IsTraced map.content t → KnowsRules hook (told map.content t) → IsHeld hook map t
held-unmarked hook map t none traced known = record { traced = traced; room = places-alone map.places t.steps (origin map.content t) (traced.unmarked none); known = known }

pub held-marked : (hook : Hook) (map : Holding) (t u : Trail) (name : List ℕ) → IsHeld hook map t → IsOrdered t → u ≡ marked t name → IsTraced map.content u → IsHeld hook map u
held-marked hook map t u name h o is traced = record {
  traced = traced;
  room = subst (λ (v : Trail). HasPlacesForAll map.places (contents_of map.content v)) (sym is) (places-marked map.places map.content t h.traced o h.room name);
  known = marked-known hook (told map.content t) h.known name (told map.content u) (ap (told map.content) is ∙ told-marked map.content t name h.traced o);
}

-- where the content stayed
pub held-same : (hook : Hook) (old new : Holding) (t u : Trail) → IsHeld hook old t → old.places ≤ new.places → u ≡ t → new.content ≡ old.content → IsTraced new.content u → IsHeld hook new u
held-same hook old new t u h more same alike traced = record {
  traced = traced;
  room =
      subst (λ (v : Trail). HasPlacesForAll new.places (contents_of new.content v)) (sym same)
      (subst (λ (c : Content). HasPlacesForAll new.places (contents_of c t)) (sym alike) (places-more old.places new.places more (contents_of old.content t) h.room));
  known = same-known hook (told old.content t) h.known (told new.content u) (ap (told new.content) same ∙ ap (λ (c : Content). told c t) alike);
}

module _ (hook : Hook) (old new : Holding) (t : Trail) (h : IsHeld hook old t) (o : IsOrdered t) (more : old.places ≤ new.places)
    (room : live_count old.content.rows + (made new.content.rows - made old.content.rows) ≤ new.places) where
  places-noted : (d : Difference) → Follows old.content new.content → IsLawfulContent new.content → IsDifference old.content new.content d
      → t.standing ≢ 0 → HasPlacesForAll new.places (contents_of new.content (noted t d))
  places-noted d follows kept is some =
      let put : put_forward d (all_put_forward (standing_steps t) (origin old.content t)) ≡ new.content =
      ap (λ (c : Content). put_forward d c) h.traced.here ∙ leads-on old.content new.content d follows is in
      let row : contents_of new.content (noted t d) ≡ (past_of old.content t ++ old.content ∷ []) ++ new.content ∷ [] =
      ap (λ (c : Content). contents_along (standing_steps t ++ d ∷ []) c) (origin-noted old.content new.content t d h.traced o kept follows is some)
      ∙ along-push (standing_steps t) d (origin old.content t)
      ∙ ap₂ (λ (cs : List Content) (c : Content). cs ++ c ∷ []) (along-standing old.content t h.traced o) put in
      let begun = follows.begun in
      let later = kept.begun in
      subst (λ (cs : List Content). HasPlacesForAll new.places cs) (sym (row ∙ append_assoc (past_of old.content t) (old.content ∷ []) (new.content ∷ [])))
      (places-push new.places (past_of old.content t) old.content new.content
      (places-standing new.places old.content t h.traced o (places-more old.places new.places more (contents_of old.content t) h.room))
      (omega (arith, room, begun, later)))

  module _ (asked : Bool) (noting : IsTrue asked ↔ (0 < t.standing)) (step : Option Difference) (s : IsStep asked old.content new.content step) where
    places-as : (b : Bool) (d : Option Difference) → asked ≡ b → IsTold b old.content new.content d → HasPlacesForAll new.places (contents_of new.content (advanced t d))
    places-as false None off told = places-alone new.places t.steps (origin new.content t) (h.traced.unmarked (none-stands asked t.standing noting off))
    places-as false (Some d) off told = absurd told
    places-as true None on told = absurd told
    places-as true (Some d) on told = places-noted d s.follows s.kept told (λ none. let some = noting.0 on in omega arith)

    -- where a step was made, and noted if it was asked for
    pub held-advanced : AreRulesKnown hook new.content → (u v : Trail) → u ≡ t → v ≡ advanced u step → IsHeld hook new v
    held-advanced known u v same noted = record {
      traced = traced-advanced old.content new.content t h.traced o asked noting step s u v same noted;
      room =
          subst (λ (w : Trail). HasPlacesForAll new.places (contents_of new.content w))
          (sym (noted ∙ ap (λ (w : Trail). advanced w step) same)) (places-as asked step refl s.told);
      known = next-known hook (told old.content t) h.known new.content (told new.content v) known
          (told-advanced old.content new.content t h.traced o asked noting step s u v same noted);
    }

-- going back
module _ (hook : Hook) (map : Holding) (t : Trail) (h : IsHeld hook map t) (o : IsOrdered t) (name : List ℕ) (k : ℕ) (is : trails.IsMark t name k) where
  pub room-since : HasRoomFor map.content (steps_since t k) map.places
  room-since j low =
      let stands = mark_within t name k o is in
      let all = since-long map.content t k h.traced o stands in
      let here = between-is map.content t k h.traced o stands j map.content (omega arith) in
      let further : place_of t k + (j + 1) ≡ suc (place_of t k + j) = omega arith in
      let next = between-is map.content t k h.traced o stands (j + 1) map.content (omega arith)
      ∙ ap (λ (i : ℕ). get_or (contents_of map.content t) i map.content) further in
      let differ = between-differ map.content t k h.traced o stands j no_step low in
      let one = places-at map.places (contents_of map.content t) (place_of t k + j) map.content h.room (within map.content t h.traced o (suc (place_of t k + j)) (omega arith)) in
      let left = subst (λ (c : Content). HasPlacesFor map.places c (get_or (contents_of map.content t) (suc (place_of t k + j)) map.content)) (sym here) one in
      let both = subst (λ (c : Content). HasPlacesFor map.places (all_taken_back (drop j (steps_since t k)) map.content) c) (sym next) left in
      omega (arith, both, differ.born)

  pub held-back : (new : Holding) (u : Trail) → new.content ≡ all_taken_back (steps_since t k) map.content → new.places ≡ map.places → u ≡ back t k
      → IsTraced new.content u → IsHeld hook new u
  held-back new u before places gone traced =
      let contents = contents-back map.content t name k h.traced o (mark_within t name k o is) in
      let there : HasPlacesForAll map.places (contents_of (all_taken_back (steps_since t k) map.content) (back t k)) =
      subst (λ (cs : List Content). HasPlacesForAll map.places cs) (sym contents) h.room in
      record {
        traced = traced;
        room =
            subst (λ (v : Trail). HasPlacesForAll new.places (contents_of new.content v)) (sym gone)
            (subst (λ (c : Content). HasPlacesForAll new.places (contents_of c (back t k))) (sym before)
            (subst (λ (p : ℕ). HasPlacesForAll p (contents_of (all_taken_back (steps_since t k) map.content) (back t k))) (sym places) there));
        known =
            let (mark, named, copy, told-is, stays) = gone-back map.content t name k h.traced o is in
            back-known hook (told map.content t) h.known name k mark named (told new.content u)
            (ap (λ (c : Content). told c u) before ∙ ap (told (before_steps map.content t k)) gone ∙ told-is);
      }

-- taking an undo back
module _ (hook : Hook) (old : Holding) (t : Trail) (h : IsHeld hook old t) (o : IsOrdered t) (name : List ℕ) (others : List Ahead) (last : Ahead)
    (is : IsLastAhead t name others last) where
  pub held-forth : (new : Holding) (u : Trail) → new.content ≡ all_put_forward (steps_ahead t last) old.content → old.places ≤ new.places → u ≡ forth t others last
      → IsTraced new.content u → IsHeld hook new u
  held-forth new u on more gone traced =
      let ahead = last-ahead t others last o is.there in
      let there : HasPlacesForAll new.places (contents_of (after_steps old.content t last) (forth t others last)) =
      subst (λ (cs : List Content). HasPlacesForAll new.places cs) (sym (contents-forth old.content t others last h.traced o ahead))
      (places-more old.places new.places more (contents_of old.content t) h.room) in
      record {
        traced = traced;
        room =
            subst (λ (v : Trail). HasPlacesForAll new.places (contents_of new.content v)) (sym gone)
            (subst (λ (c : Content). HasPlacesForAll new.places (contents_of c (forth t others last))) (sym on) there);
        known =
            forth-known hook (told old.content t) h.known (map (undone_of old.content t) others) (undone_of old.content t last)
            (ahead-told old.content t o name others last is).there (told new.content u)
            (ap (λ (c : Content). told c u) on ∙ ap (told (after_steps old.content t last)) gone ∙ told-forth old.content t others last h.traced o ahead);
      }
