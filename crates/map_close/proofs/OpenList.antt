-- The open darts, listed one after another.
use Rattle.std.proofs.Common.{ℕ, ◌≡◌, ◌+◌, ◌<◌, ◌≤◌, ◌⊎◌, ◌↔◌, List, [], ◌∷◌, ◌++◌, length, slice_index, Contains, subst, inl, inr, arith}
use Rattle.std.specs.List.Sorted.{IsStrictlyIncreasing}
use Rattle.std.proofs.lemmas.Bool.{cases_lt}
use Rattle.std.proofs.lemmas.List.{get_or_append_left, get_or_at, length_push}
use Rattle.std.proofs.lemmas.List.Elements.{Contains-append_left, Contains-push, Contains-push_cases, Contains-get_or}
use Rattle.map_defs.specs.Rows.{Rows, links_of, made, IsLive}
use Rattle.map_defs.specs.Closing.{IsOpen}
use Rattle.cell_edit.proofs.Beyond.{live-made}
use Rattle.map_close.specs.Boundary.{ListsOpen}

-- one more number at the end of an ascending list
increasing-push : (xs : List ℕ) (y : ℕ) → IsStrictlyIncreasing xs → ((x : ℕ) → Contains xs x → x < y) → IsStrictlyIncreasing (xs ++ y ∷ [])
increasing-push xs y up below k low = go (cases_lt (k + 1) (length xs))
  where
    go : (k + 1 < length xs) ⊎ (length xs ≤ k + 1) → slice_index (xs ++ y ∷ []) k < slice_index (xs ++ y ∷ []) (k + 1)
    go (inl within) =
        rw (get_or_append_left xs (y ∷ []) 0 k (omega arith), get_or_append_left xs (y ∷ []) 0 (k + 1) within) (up k within)
    go (inr past) =
        let last : length xs ≡ k + 1 = omega (arith, low, length_push xs y) in
        rw (get_or_append_left xs (y ∷ []) 0 k (omega arith), get_or_at xs y [] 0 (k + 1) last)
        (below (slice_index xs k) (Contains-get_or xs k 0 (omega arith)))

module _ (rows : Rows) (i : ℕ) where
  abbrev Open : ℕ → Type 0
  Open = IsOpen (IsLive rows) i (links_of rows)

  pub lists-none : (d : ℕ) → ((x : ℕ) → x < d → Open x → ⊥) → ListsOpen rows i d []
  lists-none d none = record {
    members = λ x. (λ has. absurd (omega (arith, has.1)), λ at. absurd (none x at.0 at.1));
    ascending = λ k low. absurd (omega arith);
  }

  pub lists-skip : (d : ℕ) (xs : List ℕ) → (Open d → ⊥) → ListsOpen rows i d xs → ListsOpen rows i (d + 1) xs
  lists-skip d xs not lists = record {
    members = λ x. (λ has. let at = (lists.members x).0 has in (omega (arith, at.0), at.1), λ at. (lists.members x).1 (below x at (cases_lt x d)));
    ascending = lists.ascending;
  }
    where
      below : (x : ℕ) → (x < d + 1) × Open x → (x < d) ⊎ (d ≤ x) → (x < d) × Open x
      below x at (inl less) = (less, at.1)
      below x at (inr more) = let same : x ≡ d = omega (arith, at.0) in absurd (not (subst Open same at.1))

  pub lists-push : (d : ℕ) (xs : List ℕ) → Open d → ListsOpen rows i d xs → ListsOpen rows i (d + 1) (xs ++ d ∷ [])
  lists-push d xs open_dart lists = record {
    members = λ x. (λ has. to x (Contains-push_cases xs d x has), λ at. from x at (cases_lt x d));
    ascending = increasing-push xs d lists.ascending (λ x has. ((lists.members x).0 has).0);
  }
    where
      to : (x : ℕ) → Contains xs x ⊎ (d ≡ x) → (x < d + 1) × Open x
      to x (inl has) = let at = (lists.members x).0 has in (omega (arith, at.0), at.1)
      to x (inr is) = (omega (arith, is), subst Open is open_dart)

      from : (x : ℕ) → (x < d + 1) × Open x → (x < d) ⊎ (d ≤ x) → Contains (xs ++ d ∷ []) x
      from x at (inl less) = Contains-append_left xs (d ∷ []) x ((lists.members x).1 (less, at.1))
      from x at (inr more) = let same : d ≡ x = omega (arith, at.0) in subst (Contains (xs ++ d ∷ [])) same (Contains-push xs d)

  pub lists-all : (d : ℕ) (xs : List ℕ) → made rows < d → ListsOpen rows i d xs → (x : ℕ) → Contains xs x ↔ Open x
  lists-all d xs past lists x = (
    λ has. ((lists.members x).0 has).1,
    λ at. (lists.members x).1 ((let low : x ≤ made rows = live-made rows x at.0 in omega arith), at),
  )
