-- The first state of the machine, which has no dart.
use Rattle.std.proofs.Common.{◌≡◌, ℕ, zero, suc, ◌+◌, ◌<◌, ◌≤◌, List, [], ◌∷◌, length, get_or, Option, Some, None, refl, sym, ◌∙◌, arith, lit≤}
use Rattle.std.proofs.lemmas.List.{length-replicate}
use Rattle.map_defs.specs.Kind.{Kind, inverse}
use Rattle.map_defs.specs.Values.{Value}
use Rattle.map_defs.specs.Laws.{Laws}
use Rattle.map_defs.specs.Rows.{Rows, links_of}
use Rattle.machine_defs.specs.State.{Content, empty_state, value_at}
use Rattle.machine_defs.specs.Kept.{IsLawfulContent, AreMarksKept, IsLawfulState}
use Rattle.machine_defs.specs.Loading.{first_state}
use Rattle.link_laws.proofs.Told.{told_of_laws}
use Rattle.machine_laws.proofs.Born.{no-value}

abbrev start : Rows
start = None ∷ []

free : (i d : ℕ) → links_of start i d ≡ 0
free i zero = refl
free i (suc zero) = refl
free i (suc (suc d)) = refl

no-row : (d : ℕ) (row : List ℕ) → get_or start d None ≡ Some row → ⊥
no-row zero row e = cc (e)
no-row (suc zero) row e = cc (e)
no-row (suc (suc d)) row e = cc (e)

lawful : (k : Kind) → Laws k (links_of start)
lawful k = record {
  nil = λ i. free i 0;
  back = λ i x linked. absurd (linked (free i x));
  apart = λ i x own some is. some (sym is ∙ free i x);
  square = λ i j x far. free (inverse k i) (links_of start j x) ∙ sym (free (inverse k j) (links_of start i x));
}

value-free : (k : Kind) (n i d : ℕ) → value_at (empty_state k n).present i d ≡ None
value-free k n i zero = no-value (n + 1) i
value-free k n i (suc d) = none i d
  where
    none : (i d : ℕ) → value_at (empty_state k n).present i (suc d) ≡ None
    none i zero = nil i
      where
        nil : (i : ℕ) → get_or [] i None ≡ (let n : Option Value = None in n)
        nil i = refl
    none i (suc d) = refl

wide : (k : Kind) (n d : ℕ) → d < 1 → length (get_or (empty_state k n).present.values d []) ≡ n + 1
wide k n zero h = length-replicate (n + 1) None
wide k n (suc d) h = absurd (omega arith)

-- no mark stands at first
no-marks : (c : Content) → AreMarksKept [] [] c
no-marks c = record {
  named = λ i j z low h. absurd (omega arith);
  rising = λ i j z low h. absurd (omega arith);
  within = λ p z h. absurd (omega arith);
  nothing = λ none. refl;
  copies = λ p z h. absurd (omega arith);
}

pub empty-kept : (k : Kind) (n : ℕ) → 2 ≤ n → IsLawfulState (empty_state k n)
empty-kept k n flat = record {
  present = record {
    flat = flat;
    sound = record {
      nothing = refl;
      live = λ i x linked. absurd (linked (free i x));
      back = λ i x linked. absurd (linked (free i x));
      wide = λ d row e. absurd (no-row d row e);
      few = lit≤ tt;
    };
    begun = lit≤ tt;
    lawful = told_of_laws k (links_of start) (lawful k);
    places = record { long = refl; wide = wide k n; none = λ i d dead. value-free k n i d };
    ruled = length-replicate (n + 1) None;
    equal = λ i x y live cell. value-free k n i x ∙ sym (value-free k n i y);
    none = λ i d e. value-free k n i d;
  };
  past = λ p z h. absurd (omega arith);
  marks = λ p z h. absurd (omega arith);
  marked = no-marks (empty_state k n).present;
  undone = λ p z h. absurd (omega arith);
}

-- a content that is kept makes a state that is kept
pub first-kept : (c : Content) → IsLawfulContent c → IsLawfulState (first_state c)
first-kept c kept = record { present = kept; past = λ i d h. absurd (omega arith); marks = λ i d h. absurd (omega arith); marked = no-marks c; undone = λ i d h. absurd (omega arith) }
