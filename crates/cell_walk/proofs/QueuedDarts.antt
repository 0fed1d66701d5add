-- A walk over a whole map that marks an orbit from a queue: what was marked and listed so far, and what is marked in the
-- end.
use Rattle.std.proofs.Common.{◌≡◌, ◌≢◌, ℕ, ◌+◌, ◌≤◌, ◌<◌, ◌⊎◌, ◌↔◌, Bool, true, false, IsTrue, List, [], ◌∷◌, ◌++◌, length, take, get_or, set, All, Contains, refl, sym, ap, ◌∙◌, subst, inl, inr, arith, length-set}
use Rattle.std.proofs.lemmas.Bool.{cases_eq, cases_lt, false≢true}
use Rattle.std.proofs.lemmas.List.{take_all, take_more, take-take, length-take, get_or-set_same, get_or-set_other, length-append, append_assoc, get_or-append-add}
use Rattle.std.proofs.lemmas.List.Elements.{All-push, All-contains, Contains-append_left, Contains-push, Contains-push_cases}
use Rattle.map_defs.specs.Links.{Links}
use Rattle.map_defs.specs.LinkWords.{LinkWord, one_link, through, IsWithin}
use Rattle.map_defs.specs.Cells.{Leads}
use Rattle.map_defs.specs.Rows.{Rows, links_of, IsLive}
use Rattle.cell_walk.specs.Visits.{IsVisited, IsClosed}
use Rattle.cell_walk.specs.Marks.{IsMarked, AreMarked, IsMarkedMore, IsOrbitFound, AreQueued}
use Rattle.cell_walk.specs.Sweeps.{IsAmong, AreWanted}
use Rattle.cell_walk.specs.Ways.{IsLink}
use Rattle.cell_walk.proofs.OnWays.{link-is}
use Rattle.cell_walk.proofs.Walks.{Contains-before, visited-reached, IsWalked, walked-none, walked-more, walked-all}
use Rattle.cell_walk.proofs.MarkedDarts.{kept-set, told-more}

-- first these words were looked along, and then those
visited-both : (L : Links) (V U W : LinkWord → Type 0) (x : ℕ) (a b c : List ℕ) → ((w : LinkWord) → W w ↔ (V w ⊎ U w)) → IsVisited L V x a b → IsVisited L U x b c → IsVisited L W x a c
visited-both L V U W x a b c same first then = record {
  before = before;
  only = λ y has. only y (then.only y has);
  all = λ y leads. all y leads ((same leads.0).0 leads.1);
}
  where
    before : take (length a) c ≡ a
    before =
        let longer : length a ≤ length b = omega (arith, length-take (length a) b, ap length first.before) in
        sym (take-take (length a) (length b) c longer) ∙ ap (take (length a)) then.before ∙ first.before

    earlier : (y : ℕ) → Contains a y ⊎ Leads L V x y → Contains a y ⊎ Leads L W x y
    earlier y (inl old) = inl old
    earlier y (inr leads) = inr (leads.0, (same leads.0).1 (inl leads.1), leads.2, leads.3)

    only : (y : ℕ) → Contains b y ⊎ Leads L U x y → Contains a y ⊎ Leads L W x y
    only y (inl has) = earlier y (first.only y has)
    only y (inr leads) = inr (leads.0, (same leads.0).1 (inr leads.1), leads.2, leads.3)

    all : (y : ℕ) (leads : Leads L W x y) → V leads.0 ⊎ U leads.0 → Contains c y
    all y leads (inl one) = Contains-before b c then.before y (first.all y (leads.0, one, leads.2, leads.3))
    all y leads (inr two) = then.all y (leads.0, two, leads.2, leads.3)

module _ (L : Links) (Live : ℕ → Type 0) where
  -- no words are looked along
  pub queued-none : (U : LinkWord → Type 0) (x : ℕ) (marks : List Bool) (queue : List ℕ) → ((w : LinkWord) → U w → ⊥) → AreQueued L Live U x marks queue marks queue
  queued-none U x marks queue none = record {
    places = refl;
    kept = λ d marked. marked;
    lives = λ all. all;
    visited = λ before are. (
      are,
      record {
        before = take_all (length (before ++ queue)) (before ++ queue) (omega arith);
        only = λ y has. inl has;
        all = λ y leads. absurd (none leads.0 leads.1);
      },
    );
  }

  -- a word leads to the dart of a number, which is marked and listed unless it was marked
  pub queued-word : (w : LinkWord) (x number : ℕ) (marks : List Bool) (queue : List ℕ) (new : List Bool) (longer : List ℕ) → number ≡ through L w x → (number ≢ 0 → Live number) → number < length marks → IsMarked marks 0
      → (IsMarked marks number → (new ≡ marks) × (longer ≡ queue)) → ((IsMarked marks number → ⊥) → (new ≡ set marks number true) × (longer ≡ queue ++ number ∷ []))
      → AreQueued L Live (λ v. v ≡ w) x marks queue new longer
  queued-word w x number marks queue new longer is live within nothing known fresh = by (get_or marks number false) refl
    where
      stays : IsMarked marks number → AreQueued L Live (λ v. v ≡ w) x marks queue marks queue
      stays marked = record {
        places = refl;
        kept = λ d has. has;
        lives = λ all. all;
        visited = λ before are. (are, visited-reached L w x number (before ++ queue) (before ++ queue) is (λ none. refl) (λ real. inl ((are.told number real).0 marked, refl)));
      }

      joins : (IsMarked marks number → ⊥) → AreQueued L Live (λ v. v ≡ w) x marks queue (set marks number true) (queue ++ number ∷ [])
      joins unmarked =
          let real : number ≢ 0 = λ none. unmarked (subst (IsMarked marks) (sym none) nothing) in
          record {
            places = length-set marks number true;
            kept = kept-set marks number within;
            lives = λ all. All-push Live queue number all (live real);
            visited = λ before are.
                rw (← append_assoc before queue (number ∷ [])) (
                  told-more marks (before ++ queue) number within real are,
                  visited-reached L w x number (before ++ queue) (before ++ queue ++ number ∷ []) is (λ none. absurd (real none))
                      (λ _. inr (λ has. unmarked ((are.told number real).1 has), refl)),
                );
          }

      by : (m : Bool) → get_or marks number false ≡ m → AreQueued L Live (λ v. v ≡ w) x marks queue new longer
      by true marked = let same = known marked in rw (same.0, same.1) (stays marked)
      by false clear =
          let unmarked : IsMarked marks number → ⊥ = λ marked. false≢true (sym clear ∙ marked) in
          let grown = fresh unmarked in
          rw (grown.0, grown.1) (joins unmarked)

  -- first these words were looked along, and then those
  pub queued-more : (V U W : LinkWord → Type 0) (x : ℕ) (a b c : List Bool) (p q r : List ℕ) → ((w : LinkWord) → W w ↔ (V w ⊎ U w)) → AreQueued L Live V x a p b q → AreQueued L Live U x b q c r → AreQueued L Live W x a p c r
  queued-more V U W x a b c p q r same first then = record {
    places = then.places ∙ first.places;
    kept = λ d marked. then.kept d (first.kept d marked);
    lives = λ all. then.lives (first.lives all);
    visited = λ before are.
        let one = first.visited before are in
        let two = then.visited before one.0 in
        (two.0, visited-both L V U W x (before ++ p) (before ++ q) (before ++ r) same one.1 two.1);
  }

  -- the same words were looked along
  pub queued-alike : (V W : LinkWord → Type 0) (x : ℕ) (a b : List Bool) (p q : List ℕ) → ((w : LinkWord) → W w ↔ V w) → AreQueued L Live V x a p b q → AreQueued L Live W x a p b q
  queued-alike V W x a b p q same first =
      queued-more V (λ w. ⊥) W x a b b p q q (λ w. (λ is. inl ((same w).0 is), λ either. chosen w either)) first (queued-none (λ w. ⊥) x b q (λ w none. none))
    where
      chosen : (w : LinkWord) → V w ⊎ ⊥ → W w
      chosen w (inl is) = (same w).1 is
      chosen w (inr none) = absurd none

  -- a link leads to the dart of a number, which is marked and listed unless it was marked, if the link is wanted
  pub queued-if : (wanted : Bool) (j x number : ℕ) (marks : List Bool) (queue : List ℕ) (new : List Bool) (longer : List ℕ) → number ≡ L j x → (number ≢ 0 → Live number) → number < length marks → IsMarked marks 0
      → ((IsTrue wanted → IsMarked marks number) → (new ≡ marks) × (longer ≡ queue)) → (IsTrue wanted → (IsMarked marks number → ⊥) → (new ≡ set marks number true) × (longer ≡ queue ++ number ∷ []))
      → AreQueued L Live (λ w. IsTrue wanted × (w ≡ one_link j)) x marks queue new longer
  queued-if true j x number marks queue new longer is live within nothing known fresh =
      queued-alike (λ w. w ≡ one_link j) (λ w. IsTrue true × (w ≡ one_link j)) x marks new queue longer (λ w. (λ both. both.1, λ same. (refl, same)))
      (queued-word (one_link j) x number marks queue new longer is live within nothing (λ marked. known (λ _. marked)) (fresh refl))
  queued-if false j x number marks queue new longer is live within nothing known fresh =
      let same = known (λ wanted. absurd (false≢true wanted)) in
      rw (same.0, same.1) (queued-none (λ w. IsTrue false × (w ≡ one_link j)) x marks queue (λ w both. false≢true both.0))

-- the words of the links below j + 1 are those of the links below j, and that of j
pub among-more : (j : ℕ) (Wanted : ℕ → Type 0) (w : LinkWord) → IsAmong (j + 1) Wanted w ↔ (IsAmong j Wanted w ⊎ (Wanted j × (w ≡ one_link j)))
among-more j Wanted w = (λ among. to among (cases_lt among.0 j), from)
  where
    to : (among : IsAmong (j + 1) Wanted w) → (among.0 < j) ⊎ (j ≤ among.0) → IsAmong j Wanted w ⊎ (Wanted j × (w ≡ one_link j))
    to among (inl low) = inl (among.0, low, among.2, among.3)
    to among (inr high) =
        let last : among.0 ≡ j = omega (arith, among.1, high) in
        inr (subst Wanted last among.2, among.3 ∙ ap one_link last)

    from : IsAmong j Wanted w ⊎ (Wanted j × (w ≡ one_link j)) → IsAmong (j + 1) Wanted w
    from (inl among) = (among.0, omega (arith, among.1), among.2, among.3)
    from (inr last) = (j, omega arith, last.0, last.1)

-- the links that are wanted are those of words of one link each
pub among-words : (n : ℕ) (words : List LinkWord) (Wanted : ℕ → Type 0) → All (IsWithin n) words → All IsLink words → AreWanted words Wanted → (w : LinkWord) → Contains words w ↔ IsAmong (n + 1) Wanted w
among-words n words Wanted within single wanted w = (
  λ has.
      let link : one_link w.first ≡ w = link-is w w.first refl (All-contains IsLink words w single has) in
      (w.first, omega (arith, (All-contains (IsWithin n) words w within has).0), (wanted w.first).1 (subst (Contains words) (sym link) has), sym link),
  λ among. subst (Contains words) (sym among.3) ((wanted among.0).0 among.2),
)

-- the words before place k + 1 are those before place k, and that at place k
pub words-more : (words : List LinkWord) (k : ℕ) (w : LinkWord) → k < length words → w ≡ get_or words k w → (v : LinkWord) → Contains (take (k + 1) words) v ↔ (Contains (take k words) v ⊎ (v ≡ w))
words-more words k w within at v = (λ has. to (Contains-push_cases (take k words) w v (subst (λ ws. Contains ws v) grown has)), λ either. subst (λ ws. Contains ws v) (sym grown) (from either))
  where
    grown : take (k + 1) words ≡ take k words ++ w ∷ []
    grown = take_more words k w within ∙ ap (λ u. take k words ++ u ∷ []) (sym at)

    to : Contains (take k words) v ⊎ (w ≡ v) → Contains (take k words) v ⊎ (v ≡ w)
    to (inl has) = inl has
    to (inr is) = inr (sym is)

    from : Contains (take k words) v ⊎ (v ≡ w) → Contains (take k words ++ w ∷ []) v
    from (inl has) = Contains-append_left (take k words) (w ∷ []) v has
    from (inr is) = subst (Contains (take k words ++ w ∷ [])) (sym is) (Contains-push (take k words) w)

-- the link of one more word is told
pub wanted-more : (words : List LinkWord) (k : ℕ) (w : LinkWord) (among : List Bool) → k < length words → w ≡ get_or words k w → IsLink w → w.first < length among
    → AreWanted (take k words) (IsMarked among) → AreWanted (take (k + 1) words) (IsMarked (set among w.first true))
wanted-more words k w among within at single low wanted j = (λ told. to told (cases_eq j w.first), λ has. from ((words-more words k w within at (one_link j)).0 has))
  where
    to : IsMarked (set among w.first true) j → (j ≡ w.first) ⊎ (j ≢ w.first) → Contains (take (k + 1) words) (one_link j)
    to told (inl is) = (words-more words k w within at (one_link j)).1 (inr (link-is w j is single))
    to told (inr other) = (words-more words k w within at (one_link j)).1 (inl ((wanted j).0 (sym (get_or-set_other among w.first j true false other) ∙ told)))

    from : Contains (take k words) (one_link j) ⊎ (one_link j ≡ w) → IsMarked (set among w.first true) j
    from (inl has) = kept-set among w.first low j ((wanted j).1 has)
    from (inr is) =
        let same : j ≡ w.first = ap (λ (v : LinkWord). v.first) is in
        ap (λ i. get_or (set among w.first true) i false) same ∙ get_or-set_same among w.first true false low

-- Of the orbit of d some darts were marked and listed, after others were marked before; it was looked along the words from
-- the first ones of the list.
pub record IsSpreading (rows : Rows) (Words : LinkWord → Type 0) (d : ℕ) (old : List Bool) (place : ℕ) (marks : List Bool) (queue : List ℕ) : Type 0 where
  pub places : length marks ≡ length old
  pub kept : (e : ℕ) → IsMarked old e → IsMarked marks e
  pub lives : All (IsLive rows) queue
  pub marked : (before : List ℕ) → AreMarked old before → AreMarked marks (before ++ queue)
  pub walked : (before : List ℕ) → AreMarked old before → IsClosed (Leads (links_of rows) Words) before → IsWalked (links_of rows) Words d before (length before + place) (before ++ queue)

module _ (rows : Rows) (Words : LinkWord → Type 0) (d : ℕ) (old : List Bool) where
  pub spreading-none : (number : ℕ) (new : List Bool) (queue longer : List ℕ) → number ≡ d → d < length old → d ≢ 0 → IsLive rows d → (IsMarked old d → ⊥) → queue ≡ []
      → ((IsMarked old number → ⊥) → (new ≡ set old number true) × (longer ≡ queue ++ number ∷ [])) → IsSpreading rows Words d old 0 new longer
  spreading-none number new queue longer same within dart live fresh empty grown =
      let begun = grown (λ marked. fresh (subst (IsMarked old) same marked)) in
      rw (begun.0, begun.1, empty, same) (record {
        places = length-set old d true;
        kept = kept-set old d within;
        lives = All-push (IsLive rows) [] d (λ k x low. absurd (omega arith)) live;
        marked = λ before are. told-more old before d within dart are;
        walked = λ before are shut.
            let start : length before ≡ length before + 0 = omega arith in
            subst (λ n. IsWalked (links_of rows) Words d before n (before ++ d ∷ [])) start
            (walked-none (links_of rows) Words d before (before ++ d ∷ []) (inr (λ has. fresh ((are.told d dart).1 has), refl)));
      })

  pub spreading-more : (place x : ℕ) (marks new : List Bool) (queue longer : List ℕ) → place < length queue → x ≡ get_or queue place 0
      → AreQueued (links_of rows) (IsLive rows) Words x marks queue new longer → IsSpreading rows Words d old place marks queue → IsSpreading rows Words d old (place + 1) new longer
  spreading-more place x marks new queue longer low at step before_it = record {
    places = step.places ∙ before_it.places;
    kept = λ e marked. step.kept e (before_it.kept e marked);
    lives = step.lives before_it.lives;
    marked = λ before are. (step.visited before (before_it.marked before are)).0;
    walked = λ before are shut.
        let next : length before + place + 1 ≡ length before + (place + 1) = omega arith in
        subst (λ n. IsWalked (links_of rows) Words d before n (before ++ longer)) next
        (walked-more (links_of rows) Words d before (length before + place) x (before ++ queue) (before ++ longer)
        (omega (arith, length-append before queue, low)) (at ∙ sym (get_or-append-add before queue place 0)) shut
        (before_it.walked before are shut) (step.visited before (before_it.marked before are)).1);
  }

  pub spreading-all : (place : ℕ) (marks : List Bool) (queue : List ℕ) → length queue ≤ place → IsSpreading rows Words d old place marks queue
      → IsMarkedMore (IsOrbitFound (Leads (links_of rows) Words) d) old marks
  spreading-all place marks queue past spread = record {
    places = spread.places;
    kept = spread.kept;
    found = λ before are. (
      before ++ queue,
      spread.marked before are,
      λ shut.
          walked-all (links_of rows) Words d before (length before + place) (before ++ queue) (omega (arith, length-append before queue, past)) shut (spread.walked before are shut),
    );
  }
