-- Rows are told by how many there are, which darts live, and the links.
use Rattle.std.proofs.Common.{ℕ, ◌≡◌, ◌+◌, ◌≤◌, ◌↔◌, refl, sym, ap, ◌∙◌, arith, List, length, Option, Some, None, slice_index, IsSome, true≢false}
use Rattle.std.proofs.lemmas.List.{ext_get_or}
use Rattle.map_defs.specs.Rows.{Rows, row_at, IsLive, entry_of, links_of, AreWide}

-- two rows of one length with the same entries are one
same_row : (n : ℕ) (a b : List ℕ) → length a ≡ n + 1 → length b ≡ n + 1 → ((i : ℕ) → i ≤ n → slice_index a i ≡ slice_index b i) → a ≡ b
same_row n a b la lb same = ext_get_or 0 a b (la ∙ sym lb) (λ i l. same i (omega arith))

same_place : (n : ℕ) (a b : Option (List ℕ))
    → ((row : List ℕ) → a ≡ Some row → length row ≡ n + 1) → ((row : List ℕ) → b ≡ Some row → length row ≡ n + 1)
    → IsSome a ↔ IsSome b → ((i : ℕ) → i ≤ n → entry_of a i ≡ entry_of b i) → a ≡ b
same_place n None None wa wb live same = refl
same_place n None (Some b) wa wb live same = absurd (true≢false (sym (live.1 refl)))
same_place n (Some a) None wa wb live same = absurd (true≢false (sym (live.0 refl)))
same_place n (Some a) (Some b) wa wb live same = ap Some (same_row n a b (wa a refl) (wb b refl) same)

pub same_rows : (n : ℕ) (a b : Rows) → AreWide n a → AreWide n b → length a ≡ length b
    → ((d : ℕ) → IsLive a d ↔ IsLive b d) → ((i d : ℕ) → i ≤ n → links_of a i d ≡ links_of b i d) → a ≡ b
same_rows n a b wa wb long live same = ext_get_or None a b long (λ d l.
    same_place n (row_at a d) (row_at b d) (wa d) (wb d) (live d) (λ i h. same i d h))
