-- The links of a generalized map without boundary, and walks along them.
use Rattle.std.proofs.Common.{ℕ, suc, ◌≡◌, ◌≢◌, ◌≤◌, ◌<◌, ◌+◌, ◌⊎◌, inl, inr, refl, sym, ap, subst, ◌∙◌, List, [], ◌∷◌, ◌++◌, reverse, length, is_some, All, Option, None, arith}
use Rattle.std.proofs.lemmas.Bool.{cases_lt, false≢true}
use Rattle.std.proofs.lemmas.List.{get_or_past, reverse-append}
use Rattle.std.proofs.lemmas.List.Elements.{All-nil, All-push}
use Rattle.map_defs.specs.Kind.{alpha}
use Rattle.map_defs.specs.Links.{Links}
use Rattle.map_defs.specs.Cells.{here, onward, IsLinked, InComponent}
use Rattle.map_defs.specs.Rows.{Rows, made, row_at, IsLive, links_of, IsSound}
use Rattle.half_defs.specs.Orientation.{HasBoundary, walked}
use Rattle.link_laws.proofs.Orbits.{orbit_back}
use Rattle.link_laws.proofs.RowFacts.{rows_dimension}

-- Links lead from live darts to live darts and back, and no link above n leads anywhere.
pub record AreWhole (n : ℕ) (Live : ℕ → Type 0) (L : Links) : Type 0 where
  pub linked : (d i : ℕ) → Live d → i ≤ n → L i d ≢ 0
  pub lands : (d i : ℕ) → L i d ≢ 0 → Live (L i d)
  pub back : (d i : ℕ) → L i d ≢ 0 → L i (L i d) ≡ d
  pub low : (d i : ℕ) → L i d ≢ 0 → i ≤ n
  pub some : (d : ℕ) → Live d → d ≢ 0

pub rows-dart : (n : ℕ) (rows : Rows) → IsSound alpha n rows → (d : ℕ) → IsLive rows d → d ≢ 0
rows-dart n rows sound d live none =
    false≢true (sym (ap (λ (row : Option (List ℕ)). is_some row) (ap (row_at rows) none ∙ sound.nothing)) ∙ live)

-- no dart above the number made is live
pub rows-low : (rows : Rows) (d : ℕ) → IsLive rows d → d < made rows + 1
rows-low rows d live = go (cases_lt d (length rows))
  where
    go : (d < length rows) ⊎ (length rows ≤ d) → d < made rows + 1
    go (inl low) = omega arith
    go (inr past) = absurd (false≢true (sym (ap (λ (row : Option (List ℕ)). is_some row) (get_or_past rows d None past)) ∙ live))

pub rows-whole : (n : ℕ) (rows : Rows) → IsSound alpha n rows → (HasBoundary n (IsLive rows) (links_of rows) → ⊥) → AreWhole n (IsLive rows) (links_of rows)
rows-whole n rows sound closed = record {
  linked = λ d i live within free. closed (d, i, live, within, free);
  lands = λ d i leads. sound.live i d leads;
  back = λ d i leads. sound.back i d leads;
  low = λ d i leads. low d i leads (cases_lt n i);
  some = rows-dart n rows sound;
}
  where
    low : (d i : ℕ) → links_of rows i d ≢ 0 → (n < i) ⊎ (i ≤ n) → i ≤ n
    low d i leads (inl above) = absurd (leads (rows_dimension n rows sound.wide i d above))
    low d i leads (inr within) = within

pub walked-append : (L : Links) (d : ℕ) (one other : List ℕ) → walked L d (one ++ other) ≡ walked L (walked L d one) other
walked-append L d [] other = refl
walked-append L d (i ∷ one) other = walked-append L (L i d) one other

pub All-tail : {X : Type 0} (P : X → Type 0) (x : X) (xs : List X) → All P (x ∷ xs) → P x × All P xs
All-tail P x xs all = (all 0 x (omega arith), λ k d low. all (suc k) d (omega arith))

module _ (n : ℕ) (Live : ℕ → Type 0) (L : Links) (whole : AreWhole n Live L) where
  pub lands-live : (d i : ℕ) → Live d → i ≤ n → Live (L i d)
  lands-live d i live within = whole.lands d i (whole.linked d i live within)

  -- the links of a walk lead back in the other order
  pub walked-reverse : (d : ℕ) (links : List ℕ) → Live d → All (λ i. i ≤ n) links → walked L (walked L d links) (reverse links) ≡ d
  walked-reverse d [] live all = refl
  walked-reverse d (i ∷ links) live all =
      let t : (i ≤ n) × All (λ j. j ≤ n) links = All-tail (λ j. j ≤ n) i links all in
      let there : walked L (walked L (L i d) links) (reverse links) ≡ L i d = walked-reverse (L i d) links (lands-live d i live t.0) t.1 in
      ap (walked L (walked L (L i d) links)) (reverse-append (i ∷ []) links)
      ∙ (walked-append L (walked L (L i d) links) (reverse links) (i ∷ [])
      ∙ (ap (L i) there ∙ whole.back d i (whole.linked d i live t.0)))

  pub component-turns : (d e : ℕ) → Live d → InComponent L d e → InComponent L e d
  component-turns d e live o = orbit_back (IsLinked L) (λ x y s. s.2) turn d e (whole.some d live) o
    where
      turn : (x y : ℕ) → x ≢ 0 → IsLinked L x y → IsLinked L y x
      turn x y dart s = (s.0, ap (L s.0) (sym s.1) ∙ whole.back x s.0 (λ none. s.2 (sym s.1 ∙ none)), dart)

  pub component-live : (d e : ℕ) → Live d → InComponent L d e → Live e
  component-live d e live here = live
  component-live d e live (onward {x = x} {y = y} o s) = subst Live s.1 (whole.lands x s.0 (λ none. s.2 (sym s.1 ∙ none)))

  -- a walk leads to each dart of a component
  pub component-walk : (d e : ℕ) → InComponent L d e → (links : List ℕ) × All (λ i. i ≤ n) links × (walked L d links ≡ e)
  component-walk d e here = ([], All-nil (λ i. i ≤ n), refl)
  component-walk d e (onward {x = x} {y = y} o s) =
      let w : (links : List ℕ) × All (λ i. i ≤ n) links × (walked L d links ≡ x) = component-walk d x o in (
        w.0 ++ s.0 ∷ [],
        All-push (λ i. i ≤ n) w.0 s.0 w.1 (whole.low x s.0 (λ none. s.2 (sym s.1 ∙ none))),
        walked-append L d w.0 (s.0 ∷ []) ∙ (ap (L s.0) w.2 ∙ s.1),
      )
