-- Each new cell has a value that is carried from the old ones.
use Rattle.std.proofs.Common.{ℕ, ◌<◌, List, length, map, Option, None, Contains, refl, sym, subst, arith}
use Rattle.std.specs.Prelude.{slice_index}
use Rattle.std.specs.List.{range_with_len}
use Rattle.std.proofs.lemmas.List.FromFn.{get_or-map-range_with_len, length-map-range_with_len}
use Rattle.std.proofs.lemmas.List.Elements.{Contains-get_or}
use Rattle.map_defs.specs.Values.{Value, Meaning}
use Rattle.map_defs.specs.Carry.{NamesPiece, ArePieces, Gets, IsCarried, merged_all}
use Rattle.insert_laws.proofs.Paths.{held_is}
use Rattle.answer_laws.specs.Answering.{NotNot}
use Rattle.answer_laws.proofs.Choosing.{choose}
use Rattle.answer_laws.proofs.Listed.{ascending}

module _ (rule : Meaning) (value : ℕ → Value) (Live : ℕ → Type 0) (Old New : ℕ → ℕ → Type 0) (top : ℕ) (bound : (x : ℕ) → Live x → x < top) where
  -- the pieces within any set
  pieces_found : (Cell : ℕ → Type 0) → NotNot ((pieces : List ℕ) × ArePieces Live Old New Cell pieces)
  pieces_found Cell never = ascending (λ m. NamesPiece Live Old New m × Cell m) top (λ x p. bound x p.0.live) (λ found.
      never (found.0, record { ascending = found.1; members = found.2 }))

  -- what each piece gets
  part_found : (m : ℕ) → NamesPiece Live Old New m → NotNot ((part : Option Value) × Gets rule value Live Old New m part)
  part_found m names never = pieces_found (Old m) (λ found.
      let here : Contains found.0 m = (found.1.members m).1 (names, names.valued) in
      never (
        rule.share (value m) (length found.0) here.0,
        record {
          pieces = found.0;
          are = found.1;
          at = here.0;
          within = here.1;
          named = held_is found.0 m here;
          is = refl;
        },
      ))

  pub carried_found : (d : ℕ) → NotNot ((result : Option Value) × IsCarried rule value Live Old New d result)
  carried_found d never = pieces_found (New d) (λ found.
      choose (λ at part. Gets rule value Live Old New (slice_index found.0 at) part) None (length found.0)
      (λ at l. part_found (slice_index found.0 at) (((found.1.members (slice_index found.0 at)).0 (Contains-get_or found.0 at 0 l)).0))
      (λ parts.
      let all : List (Option Value) = map parts.0 (range_with_len 0 (length found.0)) in
      never (
        merged_all rule.merged None all,
        record {
          pieces = found.0;
          are = found.1;
          parts = all;
          even = length-map-range_with_len parts.0 0 (length found.0);
          each = λ at l. subst (λ (part : Option Value). Gets rule value Live Old New (slice_index found.0 at) part) (sym (get_or-map-range_with_len parts.0 0 (length found.0) at at None l (omega arith))) (parts.1 at l);
          is = refl;
        },
      )))
