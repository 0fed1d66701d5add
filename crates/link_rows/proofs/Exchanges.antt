-- Links of two darts written and exchanged: what stands at each place afterwards.
use Rattle.std.proofs.Common.{◌≡◌, ◌≢◌, ◌⊎◌, ℕ, ◌+◌, ◌-◌, ◌<◌, ◌≤◌, List, length, None, Some, Option, IsSome, refl, sym, ap, ◌∙◌, inl, inr, arith}
use Rattle.std.specs.Prelude.{option_map, slice_set}
use Rattle.std.proofs.lemmas.Bool.{false≢true}
use Rattle.std.proofs.lemmas.List.{get_or-set_same, length-set}
use Rattle.map_defs.specs.Kind.{beta, inverse}
use Rattle.map_defs.specs.Links.{Links}
use Rattle.map_defs.specs.Rows.{Rows, row_at, links_of, entry_of, IsLive, AreWide}
use Rattle.map_defs.specs.Edits.{with_entry}
use Rattle.link_laws.proofs.Basics.{same_or_not}
use Rattle.edit_laws.proofs.RowWrites.{row-same, links-untouched, live-entry, wide-entry, nothing-entry}
use Rattle.dual_laws.proofs.DualBeta.{link_case}
use Rattle.link_rows.specs.DualLinks.{dual_link}
use Rattle.link_rows.specs.Turning.{HaveSameDarts, AreTurned, AreExchanged}
use Rattle.link_rows.proofs.DualEntries.{dual-between, dual-top}

-- an entry that is written keeps the darts
pub same-at-first : (n : ℕ) (rows : Rows) → row_at rows 0 ≡ None → AreWide n rows → HaveSameDarts n rows rows
same-at-first n rows nothing wide = record { live = λ d. refl; nothing = nothing; wide = wide; length = refl }

pub same-written : (n : ℕ) (old rows : Rows) (d link to : ℕ) → HaveSameDarts n old rows → HaveSameDarts n old (with_entry rows d link to)
same-written n old rows d link to same = record {
  live = λ e. live-entry rows d link to e ∙ same.live e;
  nothing = nothing-entry rows d link to same.nothing;
  wide = wide-entry n rows d link to same.wide;
  length = length-set rows d (option_map (λ (row : List ℕ). slice_set row link to) (row_at rows d)) ∙ same.length;
}

pub same-on : (n : ℕ) (old rows new : Rows) → HaveSameDarts n old rows → HaveSameDarts n rows new → HaveSameDarts n old new
same-on n old rows new one two = record {
  live = λ d. two.live d ∙ one.live d;
  nothing = two.nothing;
  wide = two.wide;
  length = two.length ∙ one.length;
}

entry-written : (n : ℕ) (o : Option (List ℕ)) (link to : ℕ) → IsSome o → ((row : List ℕ) → o ≡ Some row → length row ≡ n + 1) → link ≤ n
    → entry_of (option_map (λ (row : List ℕ). slice_set row link to) o) link ≡ to
entry-written n None link to some wide within = absurd (false≢true some)
entry-written n (Some row) link to some wide within = get_or-set_same row link to 0 (omega (arith, wide row refl))

written : (n : ℕ) (rows : Rows) (d link to : ℕ) → AreWide n rows → IsLive rows d → link ≤ n → links_of (with_entry rows d link to) link d ≡ to
written n rows d link to wide live within =
    ap (λ (o : Option (List ℕ)). entry_of o link) (row-same rows d link to) ∙ entry-written n (row_at rows d) link to live (wide d) within

-- one exchange: link k of d with link n - k of e
pub record IsExchanged (n k : ℕ) (L N : Links) (d e : ℕ) : Type 0 where
  pub one : N k d ≡ L (n - k) e
  pub two : N (n - k) e ≡ L k d
  pub rest : (j x : ℕ) → (x ≡ d → j ≡ k → ⊥) → (x ≡ e → j ≡ n - k → ⊥) → N j x ≡ L j x

-- the rows with link k of d exchanged
abbrev pub exchanged : ℕ → ℕ → Rows → ℕ → ℕ → Rows
exchanged n k rows d e = with_entry (with_entry rows d k (links_of rows (n - k) e)) e (n - k) (links_of rows k d)

pub exchanged-is : (n k : ℕ) (rows : Rows) (d e : ℕ) → AreWide n rows → IsLive rows d → IsLive rows e → d ≢ e → k ≤ n
    → IsExchanged n k (links_of rows) (links_of (exchanged n k rows d e)) d e
exchanged-is n k rows d e wide here there apart within = record {
  one =
      links-untouched (with_entry rows d k (links_of rows (n - k) e)) e (n - k) (links_of rows k d) d k (λ same _. apart same)
      ∙ written n rows d k (links_of rows (n - k) e) wide here within;
  two = written n (with_entry rows d k (links_of rows (n - k) e)) e (n - k) (links_of rows k d)
      (wide-entry n rows d k (links_of rows (n - k) e) wide) (live-entry rows d k (links_of rows (n - k) e) e ∙ there) (omega arith);
  rest = λ j x first second.
      links-untouched (with_entry rows d k (links_of rows (n - k) e)) e (n - k) (links_of rows k d) x j second
      ∙ links-untouched rows d k (links_of rows (n - k) e) x j first;
}

-- each link i of d from 1 up to, but not, k has been exchanged with link n - i of e
pub record AreExchangedTo (n k : ℕ) (L N : Links) (d e : ℕ) : Type 0 where
  pub one : (i : ℕ) → 1 ≤ i → i < k → N i d ≡ L (n - i) e
  pub two : (i : ℕ) → 1 ≤ i → i < k → N (n - i) e ≡ L i d
  pub one_left : (i : ℕ) → (1 ≤ i → i < k → ⊥) → N i d ≡ L i d
  pub two_left : (j : ℕ) → (n - k < j → j < n → ⊥) → N j e ≡ L j e
  pub others : (j x : ℕ) → x ≢ d → x ≢ e → N j x ≡ L j x

pub one-more : (n k : ℕ) (L N M : Links) (d e : ℕ) → d ≢ e → 1 ≤ k → k < n → AreExchangedTo n k L N d e → IsExchanged n k N M d e → AreExchangedTo n (k + 1) L M d e
one-more n k L N M d e apart low high done is = record { one = one; two = two; one_left = one_left; two_left = two_left; others = others }
  where
    own : (i : ℕ) → i ≢ k → M i d ≡ N i d
    own i other = is.rest i d (λ _ same. other same) (λ same _. apart same)

    its : (j : ℕ) → j ≢ n - k → M j e ≡ N j e
    its j other = is.rest j e (λ same _. apart (sym same)) (λ _ same. other same)

    one : (i : ℕ) → 1 ≤ i → i < k + 1 → M i d ≡ L (n - i) e
    one i from to = elim (same_or_not i k) [
      | inl same ↦ cc (ap (λ (t : ℕ). M t d) same, ap (λ (t : ℕ). L (n - t) e) same, is.one, done.two_left (n - k) (λ above _. omega arith))
      | inr other ↦ own i other ∙ done.one i from (omega arith)
    ]

    two : (i : ℕ) → 1 ≤ i → i < k + 1 → M (n - i) e ≡ L i d
    two i from to = elim (same_or_not i k) [
      | inl same ↦ cc (ap (λ (t : ℕ). M (n - t) e) same, ap (λ (t : ℕ). L t d) same, is.two, done.one_left k (λ _ below. omega arith))
      | inr other ↦ its (n - i) (λ same. omega arith) ∙ done.two i from (omega arith)
    ]

    one_left : (i : ℕ) → (1 ≤ i → i < k + 1 → ⊥) → M i d ≡ L i d
    one_left i left = own i (λ same. left (omega arith) (omega arith)) ∙ done.one_left i (λ from to. left from (omega arith))

    two_left : (j : ℕ) → (n - (k + 1) < j → j < n → ⊥) → M j e ≡ L j e
    two_left j left = its j (λ same. left (omega arith) (omega arith)) ∙ done.two_left j (λ from to. left (omega arith) to)

    others : (j x : ℕ) → x ≢ d → x ≢ e → M j x ≡ L j x
    others j x here there = is.rest j x (λ same _. here same) (λ same _. there same) ∙ done.others j x here there

-- the rows with link 0 of d as in the dual
abbrev pub first_set : ℕ → Rows → ℕ → Rows
first_set n rows d = with_entry rows d 0 (dual_link beta n (links_of rows) 0 d)

abbrev pub firsts_set : ℕ → Rows → ℕ → ℕ → Rows
firsts_set n rows d e = first_set n (first_set n rows d) e

module _ (n : ℕ) (rows : Rows) (d e : ℕ) (dim : 2 ≤ n) (wide : AreWide n rows) (apart : d ≢ e) (there : links_of rows n d ≡ e) (back : links_of rows n e ≡ d)
    (here : IsLive rows d) (lives : IsLive rows e) where
  -- the second dart's link 0 is not changed by the first
  same-first : dual_link beta n (links_of (first_set n rows d)) 0 e ≡ dual_link beta n (links_of rows) 0 e
  same-first =
      links-untouched rows d 0 (dual_link beta n (links_of rows) 0 d) (links_of (first_set n rows d) (inverse beta (n - 1)) e) n (λ _ none. omega arith)
      ∙ ap (links_of rows n) (links-untouched rows d 0 (dual_link beta n (links_of rows) 0 d) e (inverse beta (n - 1)) (λ same _. apart (sym same)))

  first-of-one : links_of (firsts_set n rows d e) 0 d ≡ dual_link beta n (links_of rows) 0 d
  first-of-one =
      links-untouched (first_set n rows d) e 0 (dual_link beta n (links_of (first_set n rows d)) 0 e) d 0 (λ same _. apart same)
      ∙ written n rows d 0 (dual_link beta n (links_of rows) 0 d) wide here (omega arith)

  first-of-two : links_of (firsts_set n rows d e) 0 e ≡ dual_link beta n (links_of rows) 0 e
  first-of-two =
      written n (first_set n rows d) e 0 (dual_link beta n (links_of (first_set n rows d)) 0 e)
      (wide-entry n rows d 0 (dual_link beta n (links_of rows) 0 d) wide) (live-entry rows d 0 (dual_link beta n (links_of rows) 0 d) e ∙ lives) (omega arith)
      ∙ same-first

  rest : (j x : ℕ) → (x ≡ d → j ≡ 0 → ⊥) → (x ≡ e → j ≡ 0 → ⊥) → links_of (firsts_set n rows d e) j x ≡ links_of rows j x
  rest j x one two =
      links-untouched (first_set n rows d) e 0 (dual_link beta n (links_of (first_set n rows d)) 0 e) x j two
      ∙ links-untouched rows d 0 (dual_link beta n (links_of rows) 0 d) x j one

  high : (j x : ℕ) → 1 ≤ j → links_of (firsts_set n rows d e) j x ≡ links_of rows j x
  high j x low = rest j x (λ _ none. omega arith) (λ _ none. omega arith)

  -- then the exchange makes the links of the two those of the dual
  pub pair-turned : (N : Links) → AreExchanged n (links_of (firsts_set n rows d e)) N d e → AreTurned n (links_of rows) N d e
  pair-turned N done = record { one = one; two = two; others = others }
    where
      one : (i : ℕ) → i ≤ n → N i d ≡ dual_link beta n (links_of rows) i d
      one i low = go (link_case i n)
        where
          go : (i ≡ 0) ⊎ ((1 ≤ i) × (i < n)) ⊎ (i ≡ n) ⊎ (n < i) → N i d ≡ dual_link beta n (links_of rows) i d
          go (inl is) = ap (λ (t : ℕ). N t d) is ∙ done.ends 0 d (λ from _. omega arith) ∙ first-of-one ∙ sym (ap (λ (t : ℕ). dual_link beta n (links_of rows) t d) is)
          go (inr (inl p)) =
              done.one i p.0 p.1 ∙ high (n - i) e (omega arith) ∙ ap (links_of rows (n - i)) (sym there) ∙ sym (dual-between n (links_of rows) i d p.0 p.1)
          go (inr (inr (inl is))) =
              ap (λ (t : ℕ). N t d) is ∙ done.ends n d (λ _ to. omega arith) ∙ high n d (omega arith) ∙ sym (dual-top n (links_of rows) d dim)
              ∙ sym (ap (λ (t : ℕ). dual_link beta n (links_of rows) t d) is)
          go (inr (inr (inr above))) = absurd (omega arith)

      two : (i : ℕ) → i ≤ n → N i e ≡ dual_link beta n (links_of rows) i e
      two i low = go (link_case i n)
        where
          go : (i ≡ 0) ⊎ ((1 ≤ i) × (i < n)) ⊎ (i ≡ n) ⊎ (n < i) → N i e ≡ dual_link beta n (links_of rows) i e
          go (inl is) = ap (λ (t : ℕ). N t e) is ∙ done.ends 0 e (λ from _. omega arith) ∙ first-of-two ∙ sym (ap (λ (t : ℕ). dual_link beta n (links_of rows) t e) is)
          go (inr (inl p)) =
              done.two i p.0 p.1 ∙ high (n - i) d (omega arith) ∙ ap (links_of rows (n - i)) (sym back) ∙ sym (dual-between n (links_of rows) i e p.0 p.1)
          go (inr (inr (inl is))) =
              ap (λ (t : ℕ). N t e) is ∙ done.ends n e (λ _ to. omega arith) ∙ high n e (omega arith) ∙ sym (dual-top n (links_of rows) e dim)
              ∙ sym (ap (λ (t : ℕ). dual_link beta n (links_of rows) t e) is)
          go (inr (inr (inr above))) = absurd (omega arith)

      others : (i x : ℕ) → x ≢ d → x ≢ e → N i x ≡ links_of rows i x
      others i x here there = done.others i x here there ∙ rest i x (λ same _. here same) (λ same _. there same)
