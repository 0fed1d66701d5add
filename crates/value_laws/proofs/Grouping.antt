-- One set of numbers, grouped in two ways: the sums over the groups add up to the same.
use Rattle.std.proofs.Common.{ℕ, ◌≡◌, ◌⊎◌, inl, inr, sym, ◌∙◌, ℤ, List, Contains}
use Rattle.std.specs.List.Sorted.{IsStrictlyIncreasing}
use Rattle.map_defs.specs.Carry.{NamesPiece, ArePieces}
use Rattle.value_laws.proofs.Adding.{added, joined, added_of_joined, added_in_any_order, IsApart, joined_apart, held_in_joined, joined_holds, rising_apart, told_held}

-- the lists of the numbers of cells hold the pieces, each once
pub record AreGroups (Piece : ℕ → Type 0) (cells : List ℕ) (P : ℕ → List ℕ) : Type 0 where
  pub apart : IsApart cells
  pub each : (c : ℕ) → Contains cells c → IsApart (P c)
  pub one : (c e m : ℕ) → Contains cells c → Contains cells e → Contains (P c) m → Contains (P e) m → c ≡ e
  pub only : (c m : ℕ) → Contains cells c → Contains (P c) m → Piece m
  pub all : (m : ℕ) → Piece m → ((c : ℕ) → Contains cells c → Contains (P c) m → ⊥) → ⊥

module _ (Piece : ℕ → Type 0) (cells : List ℕ) (P : ℕ → List ℕ) (g : AreGroups Piece cells P) where
  pub group_held : (m : ℕ) → Contains (joined P cells) m → Piece m
  group_held m h = let r = held_in_joined P cells m h in g.only r.0 m r.1 r.2

  pub group_holds : (m : ℕ) → Piece m → Contains (joined P cells) m
  group_holds m p = go (told_held (joined P cells) m)
    where
      go : Contains (joined P cells) m ⊎ (Contains (joined P cells) m → ⊥) → Contains (joined P cells) m
      go (inl h) = h
      go (inr n) = absurd (g.all m p (λ c h q. n (joined_holds P cells c m h q)))

  groups_apart : IsApart (joined P cells)
  groups_apart = joined_apart P cells g.apart g.each g.one

pub grouped_twice : (Piece : ℕ → Type 0) (cells others : List ℕ) (P Q : ℕ → List ℕ) → AreGroups Piece cells P → AreGroups Piece others Q → (f : ℕ → ℤ) → added (λ c. added f (P c)) cells ≡ added (λ c. added f (Q c)) others
grouped_twice Piece cells others P Q g h f =
    sym (added_of_joined f P cells)
    ∙ (added_in_any_order f (joined P cells) (joined Q others) (groups_apart Piece cells P g) (groups_apart Piece others Q h)
    (λ m c. group_holds Piece others Q h m (group_held Piece cells P g m c))
    (λ m c. group_holds Piece cells P g m (group_held Piece others Q h m c))
    ∙ added_of_joined f Q others)

-- the pieces of cells that have no dart in common, and in which each piece lies
pub piece_groups : (Live : ℕ → Type 0) (Old New Cell : ℕ → ℕ → Type 0) (cells : List ℕ) (P : ℕ → List ℕ) → IsStrictlyIncreasing cells
    → ((c : ℕ) → Contains cells c → ArePieces Live Old New (Cell c) (P c))
    → ((c e m : ℕ) → Contains cells c → Contains cells e → Cell c m → Cell e m → c ≡ e)
    → ((m : ℕ) → NamesPiece Live Old New m → ((c : ℕ) → Contains cells c → Cell c m → ⊥) → ⊥)
    → AreGroups (NamesPiece Live Old New) cells P
piece_groups Live Old New Cell cells P rising are one all = record {
  apart = rising_apart cells rising;
  each = λ c h. let p = are c h in rising_apart (P c) p.ascending;
  one = λ c e m h g p q. let a = are c h in let b = are e g in one c e m h g ((a.members m).0 p).1 ((b.members m).0 q).1;
  only = λ c m h p. let a = are c h in ((a.members m).0 p).0;
  all = λ m n none. all m n (λ c h p. let a = are c h in none c h ((a.members m).1 (n, p)));
}

-- what f gives for the numbers of a list, and d for all others
pub chosen : {X : Type 0} (xs : List ℕ) (d : X) → ((x : ℕ) → Contains xs x → X) → ℕ → X
chosen xs d f x = elim (told_held xs x) [ inl h ↦ f x h | inr n ↦ d ]

pub chosen_is : {X : Type 0} (xs : List ℕ) (d : X) (f : (x : ℕ) → Contains xs x → X) (P : X → Type 0) (x : ℕ) → Contains xs x → ((h : Contains xs x) → P (f x h)) → P (chosen xs d f x)
unfolding chosen
chosen_is {X = X} xs d f P x h p = go (told_held xs x)
  where
    go : (t : Contains xs x ⊎ (Contains xs x → ⊥)) → P (elim t as (λ s. X) [ inl h ↦ f x h | inr n ↦ d ])
    go (inl g) = p g
    go (inr n) = absurd (n h)
