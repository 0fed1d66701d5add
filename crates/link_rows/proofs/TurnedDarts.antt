-- The pass over the darts that makes the dual: which darts have the links of the dual so far, and which the old ones.
use Rattle.std.proofs.Common.{◌≡◌, ◌≢◌, ◌⊎◌, ◌↔◌, ℕ, ◌+◌, ◌-◌, ◌<◌, ◌≤◌, sym, ap, subst, ◌∙◌, inl, inr, arith}
use Rattle.std.proofs.lemmas.Bool.{cases_lt}
use Rattle.map_defs.specs.Kind.{beta, inverse}
use Rattle.map_defs.specs.Links.{Links}
use Rattle.map_defs.specs.Laws.{Laws}
use Rattle.map_defs.specs.Rows.{Rows, made, links_of, IsLive, IsSound}
use Rattle.map_defs.specs.Dual.{IsDualable, IsDual}
use Rattle.link_laws.proofs.Basics.{same_or_not, stable, inverse_own}
use Rattle.link_laws.proofs.RowFacts.{live_or_free, rows_made, rows_dimension, rows_lead_to_live}
use Rattle.dual_laws.proofs.DualBeta.{link_case}
use Rattle.dual_laws.proofs.DualLaws.{dual_laws}
use Rattle.link_rows.specs.DualLinks.{dual_link}
use Rattle.link_rows.specs.Turning.{HaveSameDarts, AreTurned}
use Rattle.link_rows.proofs.DualEntries.{dual-between, dual-top, is-dual}

-- link n joins the darts two by two, and a dart at which it is free has no links
pub record ArePaired (n : ℕ) (L : Links) : Type 0 where
  pub twice : (x : ℕ) → L n x ≢ 0 → L n (L n x) ≡ x
  pub apart : (x : ℕ) → x ≢ 0 → L n x ≢ x
  pub free : (x : ℕ) → L n x ≡ 0 → (i : ℕ) → L i x ≡ 0

pub paired : (n : ℕ) (rows : Rows) → 2 ≤ n → Laws beta (links_of rows) → IsDualable beta n (links_of rows) (IsLive rows) → ArePaired n (links_of rows)
paired n rows dim w can = record {
  twice = λ x linked. ap (λ (t : ℕ). links_of rows t (links_of rows n x)) (sym (inverse_own beta n dim)) ∙ w.back n x linked;
  apart = λ x some. w.apart n x (inverse_own beta n dim) some;
  free = free;
}
  where
    free : (x : ℕ) → links_of rows n x ≡ 0 → (i : ℕ) → links_of rows i x ≡ 0
    free x none = go (live_or_free rows x)
      where
        go : IsLive rows x ⊎ ((IsLive rows x → ⊥) × ((i : ℕ) → links_of rows i x ≡ 0)) → (i : ℕ) → links_of rows i x ≡ 0
        go (inl live) = absurd (can.closed n x live (omega arith) none)
        go (inr dead) = dead.1

-- the links of each dart that is at most k, or whose dart at link n is, are those of the dual, and all others are the old ones
pub record AreTurnedTo (n k : ℕ) (L N : Links) : Type 0 where
  pub done : (i x : ℕ) → i ≤ n → (x ≤ k) ⊎ (L n x ≤ k) → N i x ≡ dual_link beta n L i x
  pub left : (i x : ℕ) → k < x → k < L n x → N i x ≡ L i x

module _ (n : ℕ) (L : Links) (dim : 2 ≤ n) (w : Laws beta L) (p : ArePaired n L) where
  module _ (k : ℕ) (N : Links) (t : AreTurnedTo n k L N) where
    -- link n stays
    pub top-stays : (x : ℕ) → N n x ≡ L n x
    top-stays x = go (cases_lt k x) (cases_lt k (L n x))
      where
        go : (k < x) ⊎ (x ≤ k) → (k < L n x) ⊎ (L n x ≤ k) → N n x ≡ L n x
        go (inl above) (inl beyond) = t.left n x above beyond
        go (inr below) r = t.done n x (omega arith) (inl below) ∙ dual-top n L x dim
        go r (inr below) = t.done n x (omega arith) (inr below) ∙ dual-top n L x dim

    -- what the dual makes of the links of a dart that is left
    dual-left : (i x : ℕ) → k < x → k < L n x → i ≤ n → dual_link beta n N i x ≡ dual_link beta n L i x
    dual-left i x above beyond low = go (link_case i n)
      where
        go : (i ≡ 0) ⊎ ((1 ≤ i) × (i < n)) ⊎ (i ≡ n) ⊎ (n < i) → dual_link beta n N i x ≡ dual_link beta n L i x
        go (inl is) =
            ap (λ (s : ℕ). dual_link beta n N s x) is ∙ top-stays (N (inverse beta (n - 1)) x) ∙ ap (L n) (t.left (inverse beta (n - 1)) x above beyond)
            ∙ sym (ap (λ (s : ℕ). dual_link beta n L s x) is)
        go (inr (inl q)) =
            let again : L n (L n x) ≡ x = p.twice x (λ none. omega arith) in
            dual-between n N i x q.0 q.1 ∙ ap (N (n - i)) (top-stays x) ∙ t.left (n - i) (L n x) beyond (omega (arith, again, above)) ∙ sym (dual-between n L i x q.0 q.1)
        go (inr (inr (inl is))) =
            ap (λ (s : ℕ). dual_link beta n N s x) is ∙ dual-top n N x dim ∙ top-stays x ∙ sym (dual-top n L x dim) ∙ sym (ap (λ (s : ℕ). dual_link beta n L s x) is)
        go (inr (inr (inr over))) = absurd (omega arith)

    -- the next dart, where the dart at its link n has a greater number
    pub turned-on : (M : Links) → k + 1 < L n (k + 1) → AreTurned n N M (k + 1) (L n (k + 1)) → AreTurnedTo n (k + 1) L M
    turned-on M more both = record { done = done; left = left }
      where
        again : L n (L n (k + 1)) ≡ k + 1
        again = p.twice (k + 1) (λ none. omega arith)

        own : (i : ℕ) → i ≤ n → M i (k + 1) ≡ dual_link beta n L i (k + 1)
        own i low = both.one i low ∙ dual-left i (k + 1) (omega arith) (omega arith) low

        its : (i : ℕ) → i ≤ n → M i (L n (k + 1)) ≡ dual_link beta n L i (L n (k + 1))
        its i low = both.two i low ∙ dual-left i (L n (k + 1)) (omega arith) (omega (arith, again)) low

        other : (x : ℕ) → x ≢ k + 1 → x ≢ L n (k + 1) → (x ≤ k + 1) ⊎ (L n x ≤ k + 1) → (x ≤ k) ⊎ (L n x ≤ k)
        other x here there (inl below) = inl (omega arith)
        other x here there (inr below) = go (same_or_not (L n x) (k + 1))
          where
            go : (L n x ≡ k + 1) ⊎ (L n x ≢ k + 1) → (x ≤ k) ⊎ (L n x ≤ k)
            go (inl is) = absurd (there (sym (p.twice x (λ none. omega arith)) ∙ ap (L n) is))
            go (inr is) = inr (omega arith)

        done : (i x : ℕ) → i ≤ n → (x ≤ k + 1) ⊎ (L n x ≤ k + 1) → M i x ≡ dual_link beta n L i x
        done i x low within = go (same_or_not x (k + 1)) (same_or_not x (L n (k + 1)))
          where
            go : (x ≡ k + 1) ⊎ (x ≢ k + 1) → (x ≡ L n (k + 1)) ⊎ (x ≢ L n (k + 1)) → M i x ≡ dual_link beta n L i x
            go (inl is) r = ap (M i) is ∙ own i low ∙ sym (ap (dual_link beta n L i) is)
            go (inr here) (inl is) = ap (M i) is ∙ its i low ∙ sym (ap (dual_link beta n L i) is)
            go (inr here) (inr there) = both.others i x here there ∙ t.done i x low (other x here there within)

        left : (i x : ℕ) → k + 1 < x → k + 1 < L n x → M i x ≡ L i x
        left i x above beyond =
            both.others i x (λ is. omega arith) (λ is. let f : L n x ≡ k + 1 = ap (L n) is ∙ again in omega arith) ∙ t.left i x (omega arith) (omega arith)

    -- and where it has a lesser one, or there is none
    pub turned-before : L n (k + 1) ≤ k + 1 → AreTurnedTo n (k + 1) L N
    turned-before less = record { done = λ i x low within. t.done i x low (other x within); left = λ i x above beyond. t.left i x (omega arith) (omega arith) }
      where
        lesser : L n (k + 1) ≤ k
        lesser = let moved : L n (k + 1) ≢ k + 1 = p.apart (k + 1) (λ none. omega arith) in omega arith

        other : (x : ℕ) → (x ≤ k + 1) ⊎ (L n x ≤ k + 1) → (x ≤ k) ⊎ (L n x ≤ k)
        other x (inl below) = go (same_or_not x (k + 1))
          where
            go : (x ≡ k + 1) ⊎ (x ≢ k + 1) → (x ≤ k) ⊎ (L n x ≤ k)
            go (inl is) = let f : L n x ≡ L n (k + 1) = ap (L n) is in inr (omega arith)
            go (inr is) = inl (omega arith)
        other x (inr below) = go (same_or_not (L n x) (k + 1))
          where
            go : (L n x ≡ k + 1) ⊎ (L n x ≢ k + 1) → (x ≤ k) ⊎ (L n x ≤ k)
            go (inl is) = let f : L n (k + 1) ≡ x = sym (ap (L n) is) ∙ p.twice x (λ none. omega arith) in inl (omega arith)
            go (inr is) = inr (omega arith)

-- after all darts the links are those of the dual
pub all-turned : (n : ℕ) (rows : Rows) (N : Links) → AreTurnedTo n (made rows) (links_of rows) N → (i d : ℕ) → i ≤ n → N i d ≡ dual_link beta n (links_of rows) i d
all-turned n rows N t i d low = go (cases_lt (made rows) d)
  where
    go : (made rows < d) ⊎ (d ≤ made rows) → N i d ≡ dual_link beta n (links_of rows) i d
    go (inl past) =
        let none : links_of rows n d ≡ 0 = stable _ _ (λ linked. let m = rows_made rows n d linked in omega arith) in
        t.done i d low (inr (omega arith))
    go (inr made) = t.done i d low (inl made)

-- the rows of the dual
module _ (n : ℕ) (old new : Rows) (dim : 2 ≤ n) (sound : IsSound beta n old) (w : Laws beta (links_of old)) (can : IsDualable beta n (links_of old) (IsLive old))
    (is : (i d : ℕ) → i ≤ n → links_of new i d ≡ dual_link beta n (links_of old) i d) (darts : HaveSameDarts n old new) where
  pub dualized : IsDual beta n (links_of old) (links_of new)
  dualized = is-dual n (links_of old) dim beta w (links_of new) is (rows_dimension n new darts.wide)

  laws : Laws beta (links_of new)
  laws = dual_laws n old dim beta (links_of new) w can dualized

  pub dualized-sound : IsSound beta n new
  dualized-sound = record {
    nothing = darts.nothing;
    live = rows_lead_to_live beta new laws;
    back = laws.back;
    wide = darts.wide;
    few = let few = sound.few in omega (arith, darts.length, few);
  }

pub same-live : (n : ℕ) (old new : Rows) → HaveSameDarts n old new → (d : ℕ) → IsLive new d ↔ IsLive old d
same-live n old new darts d = (λ live. sym (darts.live d) ∙ live, λ live. darts.live d ∙ live)

-- one step of the pass
pub turned-step : (n : ℕ) (old rows new : Rows) (k : ℕ) → 2 ≤ n → Laws beta (links_of old) → IsDualable beta n (links_of old) (IsLive old)
    → AreTurnedTo n k (links_of old) (links_of rows)
    → (k + 1 < links_of rows n (k + 1) → AreTurned n (links_of rows) (links_of new) (k + 1) (links_of rows n (k + 1)))
    → (links_of rows n (k + 1) ≤ k + 1 → new ≡ rows) → AreTurnedTo n (k + 1) (links_of old) (links_of new)
turned-step n old rows new k dim w can t turned same = go (cases_lt (k + 1) (links_of old n (k + 1)))
  where
    p : ArePaired n (links_of old)
    p = paired n old dim w can

    top : links_of rows n (k + 1) ≡ links_of old n (k + 1)
    top = top-stays n (links_of old) dim w p k (links_of rows) t (k + 1)

    go : (k + 1 < links_of old n (k + 1)) ⊎ (links_of old n (k + 1) ≤ k + 1) → AreTurnedTo n (k + 1) (links_of old) (links_of new)
    go (inl more) =
        turned-on n (links_of old) dim w p k (links_of rows) t (links_of new) more
        (subst (AreTurned n (links_of rows) (links_of new) (k + 1)) top (turned (omega (arith, top))))
    go (inr less) =
        subst (λ (r : Rows). AreTurnedTo n (k + 1) (links_of old) (links_of r)) (sym (same (omega (arith, top)))) (turned-before n (links_of old) dim w p k (links_of rows) t less)
