-- The edit that writes the entries of an edge: it fits, cuts the face, and keeps the laws.
use Rattle.std.proofs.Common.{ℕ, ◌≡◌, ◌≢◌, ◌+◌, ◌<◌, ◌≤◌, ◌↔◌, List, length, take, get_or, Contains, refl, sym, ap, ◌∙◌, subst, inl, inr, arith}
use Rattle.std.proofs.lemmas.Bool.{cases_lt}
use Rattle.map_defs.specs.Kind.{beta}
use Rattle.map_defs.specs.Links.{Links, IsTurned}
use Rattle.map_defs.specs.Laws.{Laws}
use Rattle.map_defs.specs.Rows.{Rows, links_of, made, IsLive, IsSound}
use Rattle.map_defs.specs.Births.{IsNumbered, IsFresh}
use Rattle.map_defs.specs.Edits.{Change, Edit, with_births, after_edit}
use Rattle.map_defs.specs.Insertion.{IsCut}
use Rattle.link_laws.proofs.Basics.{by_cases, same_or_not}
use Rattle.link_laws.proofs.LawFacts.{link_one}
use Rattle.link_laws.proofs.RowFacts.{rows_made, rows_dimension}
use Rattle.insert_laws.proofs.Fresh.{IsNew, fresh_link}
use Rattle.insert_laws.proofs.BetaEdge.{IsTurning, IsCorner, ComesBefore}
use Rattle.insert_laws.proofs.BetaEdgeLaws.{cut_keeps}
use Rattle.insert_laws.proofs.Numbers.{numbered_fresh}
use Rattle.sewing.specs.Triples.{Triple, Lists, ComesBefore as IsBefore}
use Rattle.sewing.proofs.PairWalks.{Contains-take}
use Rattle.cell_edit.specs.Stars.{Stars, star_of}
use Rattle.cell_edit.specs.Inserting.{PlansInsertion}
use Rattle.cell_edit.specs.Writing.{WritesEntries}
use Rattle.cell_edit.proofs.AlongLinks.{linked-within}
use Rattle.cell_edit.proofs.Beyond.{live-made}
use Rattle.cell_edit.proofs.CornerList.{before-place}
use Rattle.beta_edit.specs.Growing.{Grows}
use Rattle.beta_edit.specs.Cutting.{cut_link, IsOldTurnEntry, AreCutEntries, IsTurn, AreTurns}
use Rattle.beta_edit.proofs.OldEntries.{places-apart}
use Rattle.beta_edit.proofs.CutEntries.{cut-along, around-place}
use Rattle.beta_edit.proofs.GrowthFacts.{key-made, keys-numbered, old-lives, new-lives, grown-edit}
use Rattle.cell_edit.proofs.EntryEdit.{growing, written, left, entries-fit}

module _ (n : ℕ) (rows : Rows) (sound : IsSound beta n rows) (dim : 2 ≤ n) (w : Laws beta (links_of rows)) (stars : Stars) (pairs : List Triple) (turns : AreTurns rows stars pairs) where
  abbrev L : Links
  L = links_of rows

  abbrev K : ℕ → Type 0
  K = Contains stars.keys

  abbrev star : ℕ → ℕ
  star = star_of stars

  -- what is asked of a pair that tells of a corner
  at_zero : (q : Triple) → Contains pairs q → q.t ≡ 0 → Lists pairs q.x q.y 0
  at_zero q has zero = subst (λ s. Lists pairs q.x q.y s) zero has

  told_turn : (q : Triple) → Contains pairs q → q.t ≡ 0 → IsTurn L stars.keys q.x q.y
  told_turn q has zero = turns.turn q.x q.y (at_zero q has zero)

  -- the entries of old darts of two corners have no place in common
  pub turns-apart : (p : ℕ) (q u : Triple) → p < length pairs → q ≡ get_or pairs p q → Contains (take p pairs) u → (d t y z : ℕ)
      → IsOldTurnEntry L star u d t y → IsOldTurnEntry L star q d t z → ⊥
  turns-apart p q u low at has d t y z (u_zero, e) (q_zero, f) =
      let first : Lists pairs u.x u.y 0 = at_zero u (Contains-take p pairs u has) u_zero in
      let second : Lists pairs q.x q.y 0 = at_zero q (p, low, sym at) q_zero in
      let a = turns.turn u.x u.y first in
      let b = turns.turn q.x q.y second in
      let less : u.x < q.x = before (before-place pairs turns.ascending p q u low at has) in
      let apart : u.x ≢ q.x = λ same. omega arith in
      places-apart (L 0 u.x) (L 1 u.y) (L 0 q.x) (L 1 q.y) d t
      (λ same. apart (link_one beta L w 0 u.x q.x a.begins same))
      (λ some same. apart (turns.one u.x q.x q.y (subst (λ v. Lists pairs u.x v 0) (link_one beta L w 1 u.y q.y some same) first) second))
      (around-place L u.x u.y (star u.x) d t y a.ends e) (around-place L q.x q.y (star q.x) d t z b.ends f)
    where
      before : IsBefore u q → u.x < q.x
      before (inl less) = less
      before (inr less) = omega (arith, less.1)

  -- they are those of darts that were made
  pub turn-made : (d t y : ℕ) → ((q : Triple) × Contains pairs q × IsOldTurnEntry L star q d t y) → d < stars.made + 1
  turn-made d t y (q, has, (zero, inl e)) =
      let low : L 0 q.x ≤ made rows = live-made rows (L 0 q.x) (sound.live 0 q.x (told_turn q has zero).begins) in
      omega (arith, e.0, low, turns.grow.made)
  turn-made d t y (q, has, (zero, inr e)) =
      let low : L 1 q.y ≤ made rows = live-made rows (L 1 q.y) (sound.live 1 q.y (told_turn q has zero).ends) in
      omega (arith, e.0, low, turns.grow.made)

  module _ (Turn : ℕ → ℕ → Type 0) (turn : IsTurning L Turn) (single : (x y z : ℕ) → Turn x y → Turn x z → y ≡ z) (members : (x : ℕ) → K x ↔ IsCorner Turn x)
      (told : (x z : ℕ) → Lists pairs x z 0 → Turn x (L 1 z)) (listed : (x y : ℕ) → Turn x y → Lists pairs x (L 0 y) 0) where
    abbrev Entry : ℕ → ℕ → ℕ → Type 0
    Entry = AreCutEntries L star pairs

    numbered : IsNumbered (IsCorner Turn) stars.keys stars.made star
    numbered = record {
      nothing = (keys-numbered n rows sound stars turns.grow).nothing;
      ascending = turns.grow.rising;
      members = members;
      numbers = (keys-numbered n rows sound stars turns.grow).numbers;
    }

    corner_made : (x : ℕ) → IsCorner Turn x → x ≤ stars.made
    corner_made x c = key-made n rows sound stars turns.grow x ((members x).1 c)

    fresh : IsFresh L (IsCorner Turn) star
    fresh = numbered_fresh (IsCorner Turn) stars.keys stars.made star numbered L corner_made (λ t x linked. let h : x ≤ made rows = rows_made rows t x linked in omega (arith, turns.grow.made))

    not_link : (t x : ℕ) → IsNew (IsCorner Turn) star (L t x) → ⊥
    not_link t x = fresh_link beta L w (IsCorner Turn) star fresh t x

    -- the pair of a turn leads back where link 1 leads on
    pair_turn : (q : Triple) → Contains pairs q → q.t ≡ 0 → Turn q.x (L 1 q.y)
    pair_turn q has zero = told q.x q.y (at_zero q has zero)

    pair_back : (q : Triple) → Contains pairs q → q.t ≡ 0 → L 0 (L 1 q.y) ≡ q.y
    pair_back q has zero = w.back 1 q.y (told_turn q has zero).ends

    ends_on : (x y : ℕ) → Turn x y → L 1 (L 0 y) ≡ y
    ends_on x y p = w.back 0 y (turn.begins y x (turn.both x y p))

    abbrev pair_of : ℕ → ℕ → Triple
    pair_of x y = record { x = x; y = L 0 y; t = 0 }

    lives : (d t y : ℕ) → Entry d t y → IsLive (with_births n (length stars.keys) rows) d
    lives d t y (q, has, inl (zero, inl e)) = rw e.0 (old-lives n rows sound stars turns.grow (L 0 q.x) (sound.live 0 q.x (told_turn q has zero).begins))
    lives d t y (q, has, inl (zero, inr e)) = rw e.0 (old-lives n rows sound stars turns.grow (L 1 q.y) (sound.live 1 q.y (told_turn q has zero).ends))
    lives d t y (q, has, inr (zero, e)) = rw e.0 (new-lives n rows sound stars turns.grow q.x (told_turn q has zero).corner)

    -- a link above the dimension is free
    cut_low : (x z t : ℕ) → cut_link L star x z t ≢ 0 → t ≤ n
    cut_low x z t some = elim (cases_lt t 3) [
      | inl below ↦ omega arith
      | inr high ↦ linked-within n L (rows_dimension n rows sound.wide) t z (λ none. some (cut-along L x z star t high ∙ ap star none ∙ fresh.nothing))
    ]

    inside : (d t y : ℕ) → Entry d t y → t ≤ n
    inside d t y (q, has, inl (zero, inl e)) = omega (arith, e.1)
    inside d t y (q, has, inl (zero, inr e)) = omega (arith, e.1)
    inside d t y (q, has, inr (zero, e)) = cut_low q.x q.y t (λ none. e.2 (e.1 ∙ none))

    -- ---- places where nothing is written
    along_free : (x y t v : ℕ) → Turn x y → 3 ≤ t → L t (L 0 y) ≡ 0 → Entry (star x) t v → ⊥
    along_free x y t v p l free (q, has, inl (zero, inl e)) = omega (arith, e.1)
    along_free x y t v p l free (q, has, inl (zero, inr e)) = omega (arith, e.1)
    along_free x y t v p l free (q, has, inr (zero, e)) =
        let same : q.x ≡ x = fresh.one q.x x (L 1 q.y, pair_turn q has zero) (y, p) (sym e.0) in
        let to : y ≡ L 1 q.y = single x y (L 1 q.y) p (subst (λ u. Turn u (L 1 q.y)) same (pair_turn q has zero)) in
        let none : L t q.y ≡ 0 = ap (L t) (sym (pair_back q has zero)) ∙ ap (λ u. L t (L 0 u)) (sym to) ∙ free in
        e.2 (e.1 ∙ cut-along L q.x q.y star t l ∙ ap star none ∙ fresh.nothing)

    out_free : (x t v : ℕ) → 1 ≤ t → ((c y : ℕ) → Turn c y → t ≡ 1 → x ≢ L 0 c) → ((c y : ℕ) → Turn c y → x ≢ star c) → Entry x t v → ⊥
    out_free x t v l begins old (q, has, inl (zero, inl e)) = begins q.x (L 1 q.y) (pair_turn q has zero) e.1 e.0
    out_free x t v l begins old (q, has, inl (zero, inr e)) = omega (arith, e.1)
    out_free x t v l begins old (q, has, inr (zero, e)) = old q.x (L 1 q.y) (pair_turn q has zero) e.0

    back_free : (x v : ℕ) → (IsNew (IsCorner Turn) star x → ⊥) → (IsCorner Turn x → ⊥) → Entry x 0 v → ⊥
    back_free x v old out (q, has, inl (zero, inl e)) = omega (arith, e.1)
    back_free x v old out (q, has, inl (zero, inr e)) = out (q.x, subst (λ u. Turn u q.x) (sym e.0) (turn.both q.x (L 1 q.y) (pair_turn q has zero)))
    back_free x v old out (q, has, inr (zero, e)) = old (q.x, (L 1 q.y, pair_turn q has zero), e.0)

    module _ (cs : List Change) (writes : WritesEntries L Entry cs) where
      abbrev N : Links
      N = links_of (after_edit n (growing (length stars.keys) cs) rows)

      is : (d t y : ℕ) → Entry d t y → N t d ≡ y
      is = written beta n rows sound (length stars.keys) Entry lives inside cs writes

      stays : (d t : ℕ) → ((y : ℕ) → Entry d t y → ⊥) → N t d ≡ L t d
      stays = left beta n rows sound (length stars.keys) Entry lives inside cs writes

      -- what is asked of the pair of a turn
      asked : (x y : ℕ) → Turn x y → IsTurn L stars.keys x (L 0 y)
      asked x y p = turns.turn x (L 0 y) (listed x y p)

      into : (x y : ℕ) → Turn x y → N 1 (L 0 x) ≡ star x
      into x y p = is (L 0 x) 1 (star x) (pair_of x y, listed x y p, inl (refl, inl (refl, refl, refl)))

      -- the new dart has its links
      new_is : (x y t : ℕ) → Turn x y → cut_link L star x (L 0 y) t ≢ 0 → N t (star x) ≡ cut_link L star x (L 0 y) t
      new_is x y t p some = is (star x) t (cut_link L star x (L 0 y) t) (pair_of x y, listed x y p, inr (refl, (refl, refl, some)))

      onward : (x y : ℕ) → Turn x y → N 1 (star x) ≡ y
      onward x y p = new_is x y 1 p (asked x y p).ends ∙ ends_on x y p

      star_some : (x : ℕ) → K x → star x ≢ 0
      star_some x h = fresh.dart x ((members x).0 h)

      sides : (x y : ℕ) → Turn x y → N 2 (star x) ≡ star y
      sides x y p = new_is x y 2 p (star_some (L 1 (L 0 y)) (asked x y p).other) ∙ ap star (ends_on x y p)

      along : (x y j : ℕ) → Turn x y → 3 ≤ j → N j (star x) ≡ star (L j (L 0 y))
      along x y j p l = elim (same_or_not (L j (L 0 y)) 0) [
        | inl free ↦ stays (star x) j (λ v e. along_free x y j v p l free e) ∙ fresh.unlinked j x (y, p) ∙ sym fresh.nothing ∙ sym (ap star free)
        | inr some ↦ (
            let to : cut_link L star x (L 0 y) j ≡ star (L j (L 0 y)) = cut-along L x (L 0 y) star j l in
            new_is x y j p (λ none. star_some (L j (L 0 y)) ((asked x y p).copies j l some) (sym to ∙ none)) ∙ to)
      ]

      kept : (x t : ℕ) → 1 ≤ t → ((c y : ℕ) → Turn c y → t ≡ 1 → x ≢ L 0 c) → ((c y : ℕ) → Turn c y → x ≢ star c) → N t x ≡ L t x
      kept x t l begins old = stays x t (λ v e. out_free x t v l begins old e)

      -- ---- link 0 leads back from the new darts, from the corners, and from the others
      zero_new : (x y : ℕ) → Turn x y → N 0 (star x) ≡ L 0 x
      zero_new x y p = new_is x y 0 p (asked x y p).begins

      zero_in : (x y : ℕ) → Turn x y → N 0 y ≡ star x
      zero_in x y p = ap (N 0) (sym (ends_on x y p)) ∙ is (L 1 (L 0 y)) 0 (star x) (pair_of x y, listed x y p, inl (refl, inr (refl, refl, refl)))

      zero_else : (y : ℕ) → (IsNew (IsCorner Turn) star y → ⊥) → (IsCorner Turn y → ⊥) → N 0 y ≡ L 0 y
      zero_else y old out = stays y 0 (λ v e. back_free y v old out e)

      forth : (x y : ℕ) → y ≢ 0 → N 1 x ≡ y → N 0 y ≡ x
      forth x y dart e = by_cases (IsNew (IsCorner Turn) star x) (N 0 y) x
          (λ (c, (v, p), q). ap (N 0) (sym e ∙ ap (N 1) q ∙ onward c v p) ∙ zero_in c v p ∙ sym q)
          (λ none. by_cases (ComesBefore L Turn x) (N 0 y) x
          (λ (c, v, p, q). ap (N 0) (sym e ∙ ap (N 1) q ∙ into c v p) ∙ zero_new c v p ∙ sym q)
          (λ out. let to : L 1 x ≡ y = sym (kept x 1 (omega arith) (λ c v p one q. out (c, v, p, q)) (λ c v p q. none (c, (v, p), q))) ∙ e in
          let from : L 0 y ≡ x = ap (L 0) (sym to) ∙ w.back 1 x (λ o. dart (sym to ∙ o)) in
          zero_else y (λ (c, h, q). not_link 1 x (c, h, to ∙ q)) (λ (v, p). out (y, v, p, sym from)) ∙ from))

      back : (x y : ℕ) → x ≢ 0 → y ≢ 0 → N 0 y ≡ x → N 1 x ≡ y
      back x y dart some e = by_cases (IsNew (IsCorner Turn) star y) (N 1 x) y
          (λ (c, (v, p), q). ap (N 1) (sym e ∙ ap (N 0) q ∙ zero_new c v p) ∙ into c v p ∙ sym q)
          (λ none. by_cases (IsCorner Turn y) (N 1 x) y
          (λ (v, p). let r : Turn v y = turn.both y v p in ap (N 1) (sym e ∙ zero_in v y r) ∙ onward v y r)
          (λ out. let from : L 0 y ≡ x = sym (zero_else y none out) ∙ e in
          let to : L 1 x ≡ y = ap (L 1) (sym from) ∙ w.back 0 y (λ o. dart (sym from ∙ o)) in
          kept x 1 (omega arith)
          (λ c v p one q. out (v, subst (λ u. Turn u v) (sym (w.back 0 c (turn.begins c v p)) ∙ ap (L 1) (sym q) ∙ to) p))
          (λ c v p q. not_link 0 y (c, (v, p), from ∙ q)) ∙ to))

      turned : IsTurned N
      turned = record {
        nothing = stays 0 0 (λ v e. back_free 0 v (λ (c, h, q). fresh.dart c h (sym q)) (λ (y, p). turn.dart 0 y p refl) e) ∙ w.nil 0;
        back = λ x y dart some. (λ e. forth x y some e, λ e. back x y dart some e);
      }

      cut : IsCut Turn star L N
      cut = record { into = into; onward = onward; sides = sides; along = along; kept = kept; turned = turned }

      laws : Laws beta N
      laws = cut_keeps L w Turn turn star fresh N cut

      edit_cuts : PlansInsertion beta n rows (IsCorner Turn) (λ s M. IsCut Turn s L M) (growing (length stars.keys) cs)
      edit_cuts = record {
        deaths = refl;
        fits = entries-fit beta n rows sound (length stars.keys) Entry lives inside cs writes laws;
        keys = stars.keys;
        star = star;
        numbered = subst (λ m. IsNumbered (IsCorner Turn) stars.keys m star) turns.grow.made numbered;
        births = refl;
        becomes = cut;
        laws = laws;
      }

    pub edit-cuts : (edit : Edit) → Grows L stars Entry edit → PlansInsertion beta n rows (IsCorner Turn) (λ s M. IsCut Turn s L M) edit
    edit-cuts edit grows = subst (PlansInsertion beta n rows (IsCorner Turn) (λ s M. IsCut Turn s L M)) (grown-edit L stars Entry edit grows) (edit_cuts edit.changes grows.writes)
