-- The search of a component grows, dart by dart.
use Rattle.std.proofs.Common.{ℕ, ◌≡◌, ◌≢◌, ◌≤◌, ◌<◌, ◌⊎◌, inl, inr, refl, sym, ap, subst, ◌∙◌, Bool, true, not, Option, None, Some, List, [], ◌∷◌, ◌++◌, length, take, Contains, slice_set, arith}
use Rattle.std.proofs.lemmas.List.{take_all, take_at, take-take, length-take, length-set}
use Rattle.std.proofs.lemmas.List.Elements.{Contains-append_left, Contains-push, Contains-push_cases}
use Rattle.map_defs.specs.Links.{Links}
use Rattle.map_defs.specs.Cells.{onward, InComponent}
use Rattle.orient_half.specs.declared.search.Reached.{Reached}
use Rattle.orient_half.specs.Marks.{Marks, mark_at, sign_at, IsReached, IsKept, AreHeld, AreQueued}
use Rattle.orient_half.specs.Searches.{IsGiven, IsSearched, IsGrown}
use Rattle.orient_half.proofs.MarkFacts.{not-twice, reached-mark, sign-mark, kept-same, kept-trans, kept-sign, kept-reached, put-here, put-cases, put-kept, put-reached}
use Rattle.orient_half.proofs.WholeLinks.{AreWhole, lands-live}

abbrev pub mark : Bool → ℕ → Reached
mark positive link = record { positive = positive; link = link }

module _ (n : ℕ) (Live : ℕ → Type 0) (L : Links) where
  pub grown-same : (marks : Marks) (queue : List ℕ) → AreHeld n Live marks → AreQueued marks queue → IsGrown n Live L marks marks queue queue
  grown-same marks queue held queued = record {
    held = held;
    queued = queued;
    kept = kept-same marks;
    behind = take_all (length queue) queue (omega arith);
    searched = λ first start search. search;
  }

  pub grown-trans : (one two three : Marks) (before between after : List ℕ) → IsGrown n Live L one two before between → IsGrown n Live L two three between after → IsGrown n Live L one three before after
  grown-trans one two three before between after g h = record {
    held = h.held;
    queued = h.queued;
    kept = kept-trans one two three g.kept h.kept;
    behind = sym (take-take (length before) (length between) after longer) ∙ (ap (take (length before)) h.behind ∙ g.behind);
    searched = λ first start search. h.searched first start (g.searched first start search);
  }
    where
      longer : length before ≤ length between
      longer = omega (arith, length-take (length before) between, ap length g.behind)

  -- the marks with one more
  held-put : (marks : Marks) (y : ℕ) (r : Reached) → (low : y < length marks) → Live y → r.link ≤ n → AreHeld n Live marks → AreHeld n Live (slice_set marks y (Some r))
  held-put marks y r low live within held = record {
    room = λ d lives. let fits = held.room d lives in omega (arith, length-set marks y (Some r));
    live = λ d some. lives d (put-reached marks y r low d some);
    within = λ d s e. fits d s (put-cases marks y r low d s e);
  }
    where
      lives : (d : ℕ) → (d ≡ y) ⊎ IsReached marks d → Live d
      lives d (inl is) = subst Live (sym is) live
      lives d (inr some) = held.live d some

      fits : (d : ℕ) (s : Reached) → ((d ≡ y) × (s ≡ r)) ⊎ ((d ≢ y) × (mark_at marks d ≡ Some s)) → s.link ≤ n
      fits d s (inl is) = subst (λ (t : Reached). t.link ≤ n) (sym is.1) within
      fits d s (inr apart) = held.within d s apart.1

  module _ (whole : AreWhole n Live L) (marks : Marks) (queue : List ℕ) (x i : ℕ) (b : Bool) (held : AreHeld n Live marks) (queued : AreQueued marks queue)
      (among : Contains queue x) (signed : sign_at marks x ≡ Some b) (within : i ≤ n) (fresh : mark_at marks (L i x) ≡ None) where
    x-live : Live x
    x-live = held.live x (queued x among)

    y-live : Live (L i x)
    y-live = lands-live n Live L whole x i x-live within

    y-low : L i x < length marks
    y-low = held.room (L i x) y-live

    abbrev pub new : Marks
    new = slice_set marks (L i x) (Some (mark (not b) i))

    kept : IsKept marks new
    kept = put-kept marks (L i x) (mark (not b) i) y-low fresh

    pub grown-put : IsGrown n Live L marks new queue (queue ++ L i x ∷ [])
    grown-put = record {
      held = held-put marks (L i x) (mark (not b) i) y-low y-live within held;
      queued = λ d has. reached d (Contains-push_cases queue (L i x) d has);
      kept = kept;
      behind = take_at queue (L i x ∷ []) (length queue) refl;
      searched = searched;
    }
      where
        reached : (d : ℕ) → Contains queue d ⊎ (L i x ≡ d) → IsReached new d
        reached d (inl has) = kept-reached marks new kept d (queued d has)
        reached d (inr is) = subst (IsReached new) is
            (reached-mark (mark_at new (L i x)) (mark (not b) i) (put-here marks (L i x) (mark (not b) i) y-low))

        searched : (first : ℕ) (start : Marks) → IsSearched n Live L first start marks queue → IsSearched n Live L first start new (queue ++ L i x ∷ [])
        searched first start search = record {
          held = held-put marks (L i x) (mark (not b) i) y-low y-live within held;
          kept = kept-trans start marks new search.kept kept;
          led = record {
            begun = kept-sign marks new kept first true search.led.begun;
            back = λ d s e apart. back d s apart (put-cases marks (L i x) (mark (not b) i) y-low d s e);
          };
          reached = λ d some. met d (put-reached marks (L i x) (mark (not b) i) y-low d some);
          within = λ d has. inside d (Contains-push_cases queue (L i x) d has);
        }
          where
            back : (d : ℕ) (s : Reached) → d ≢ first → ((d ≡ L i x) × (s ≡ mark (not b) i)) ⊎ ((d ≢ L i x) × (mark_at marks d ≡ Some s)) → sign_at new (L s.link d) ≡ Some (not s.positive)
            back d s apart (inl is) =
                let to : L s.link d ≡ x = ap (λ (t : Reached). L t.link d) is.1 ∙ (ap (L i) is.0 ∙ whole.back x i (whole.linked x i x-live within)) in
                ap (sign_at new) to
                ∙ (kept-sign marks new kept x b signed
                ∙ ap Some (sym (not-twice b) ∙ sym (ap (λ (t : Reached). not t.positive) is.1)))
            back d s apart (inr known) = kept-sign marks new kept (L s.link d) (not s.positive) (search.led.back d s known.1 apart)

            met : (d : ℕ) → (d ≡ L i x) ⊎ IsReached marks d → IsReached start d ⊎ Contains (queue ++ L i x ∷ []) d
            met d (inl is) = inr (subst (Contains (queue ++ L i x ∷ [])) (sym is) (Contains-push queue (L i x)))
            met d (inr some) = old (search.reached d some)
              where
                old : IsReached start d ⊎ Contains queue d → IsReached start d ⊎ Contains (queue ++ L i x ∷ []) d
                old (inl early) = inl early
                old (inr has) = inr (Contains-append_left queue (L i x ∷ []) d has)

            inside : (d : ℕ) → Contains queue d ⊎ (L i x ≡ d) → InComponent L first d
            inside d (inl has) = search.within d has
            inside d (inr is) = subst (InComponent L first) is (onward (search.within x among) (i, refl, whole.some (L i x) y-live))

-- what is known when a link led to a dart without a sign, which got one
cross-new : (n : ℕ) (Live : ℕ → Type 0) (L : Links) → AreWhole n Live L → (marks new : Marks) (queue after : List ℕ) (x i y : ℕ) (r : Reached) → AreHeld n Live marks → AreQueued marks queue → Contains queue x → mark_at marks x ≡ Some r → i ≤ n → y ≡ L i x → mark_at marks y ≡ None → new ≡ slice_set marks y (Some (mark (not r.positive) i)) → after ≡ queue ++ y ∷ [] → IsGrown n Live L marks new queue after
cross-new n Live L whole marks new queue after x i y r held queued among known within leads fresh marks_are queue_is =
    rw (marks_are, queue_is, leads)
    (grown-put n Live L whole marks queue x i r.positive held queued among (sign-mark (mark_at marks x) r known) within (subst (λ (z : ℕ). mark_at marks z ≡ None) leads fresh))

-- what is known when a link led to a dart, which got a sign unless it had one
pub given-grown : (n : ℕ) (Live : ℕ → Type 0) (L : Links) → AreWhole n Live L → (marks new : Marks) (queue after : List ℕ) (x i y : ℕ) (r : Reached) → AreHeld n Live marks → AreQueued marks queue → Contains queue x → mark_at marks x ≡ Some r → i ≤ n → y ≡ L i x → IsGiven marks new queue after y (mark (not r.positive) i) (mark_at marks y) → IsGrown n Live L marks new queue after
given-grown n Live L whole marks new queue after x i y r held queued among known within leads given = go (mark_at marks y) refl given
  where
    go : (o : Option Reached) → mark_at marks y ≡ o → IsGiven marks new queue after y (mark (not r.positive) i) o → IsGrown n Live L marks new queue after
    go None fresh g = cross-new n Live L whole marks new queue after x i y r held queued among known within leads fresh g.0 g.1
    go (Some other) has g = rw (g.0, g.1) (grown-same n Live L marks queue held queued)
