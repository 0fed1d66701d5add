-- A book is a hook.
use Rattle.std.proofs.Common.{ℕ, suc, Bool, true, false, cond, List, [], ◌∷◌, map, All, arith}
use Rattle.std.specs.Str.{bytes_eq}
use Rattle.map_defs.specs.Values.{Meaning, KeepsWhole}
use Rattle.map_defs.specs.RuleNames.{IsFreeName, IsHook}
use Rattle.hook_book.specs.Books.{meaning_among, book_of}

either-whole : (b : Bool) (one other : Meaning) → KeepsWhole one → KeepsWhole other → KeepsWhole (cond b one other)
either-whole true one other h g = h
either-whole false one other h g = g

module _ {R : Type 0} (base : Meaning) (keeps : KeepsWhole base) (called : R → List ℕ) (does : R → Meaning) where
  -- each name has a meaning that leaves whole what is not split
  among-whole : (rules : List R) → All (λ rule. KeepsWhole (does rule)) rules → (name : List ℕ) → KeepsWhole (meaning_among base called does rules name)
  among-whole [] whole name = keeps
  among-whole (rule ∷ rules) whole name =
      either-whole (bytes_eq name (called rule)) (does rule) (meaning_among base called does rules name) (whole 0 rule (omega arith))
      (among-whole rules (λ k z h. whole (suc k) z (omega arith)) name)

  pub book-lawful : (rules : List R) → All IsFreeName (map called rules) → All (λ rule. KeepsWhole (does rule)) rules → IsHook (book_of base called does rules)
  book-lawful rules free whole = record {
    whole = record { host = keeps; named = λ name known. among-whole rules whole name };
    free = free;
  }
