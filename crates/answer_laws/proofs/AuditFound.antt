-- Each text has an audit.
use Rattle.std.proofs.Common.{◌≡◌, ℕ, ◌+◌, ◌<◌, ◌⊎◌, ◌==◌, Bool, true, false, List, [], ◌∷◌, length, Some, IsSome, Result, Ok, Err, cond, refl, ap, subst, inl, inr, arith}
use Rattle.std.specs.Prelude.{All}
use Rattle.std.proofs.lemmas.Bool.{eqb-true}
use Rattle.std.proofs.lemmas.List.Elements.{All-nil, All-cons}
use Rattle.machine_defs.specs.Listing.{ListRow, Listing}
use Rattle.machine_defs.specs.ListingForm.{ListingFault, Laws, Values, Told, told}
use Rattle.machine_defs.specs.ListingFaults.{row_in, HasRow, links_in, IsFirstWithout, IsLawfulRow, IsRuleOf, IsValueOf, listing_meant, Reads, unformed, unlawful, unruled, unvalued, read}
use Rattle.machine_defs.specs.Text.{Shown, Counts, replies_text}
use Rattle.machine_defs.specs.Auditing.{fault_line, AuditAnswer}
use Rattle.answer_laws.specs.Answering.{NotNot}
use Rattle.answer_laws.proofs.Choosing.{either_way}
use Rattle.answer_laws.proofs.Questions.{counts_among_found}

-- all have the property, or there is a first one without it
first_found : {A : Type 0} (P : A → Type 0) (xs : List A) → NotNot (All P xs ⊎ ((place : ℕ) × IsFirstWithout P xs place))
first_found P [] never = never (inl (All-nil P))
first_found P (x ∷ xs) never = either_way (P x) (λ has. elim has [
  | inr none ↦ never (inr (0, record { before = []; first = x; behind = xs; parts = refl; all = All-nil P; fails = none; counted = refl }))
  | inl p ↦ first_found P xs (λ later. elim later [
    | inl all ↦ never (inl (All-cons P x xs p all))
    | inr f ↦ never (inr (
      f.0 + 1,
      record {
        before = x ∷ f.1.before;
        first = f.1.first;
        behind = f.1.behind;
        parts = ap (λ (ys : List _). x ∷ ys) f.1.parts;
        all = All-cons P x f.1.before p f.1.all;
        fails = f.1.fails;
        counted = omega (arith, f.1.counted);
      },
    ))
  ])
])

abbrev HasReading : List ℕ → Type 0
HasReading text = (answer : Result Listing ListingFault) × Reads text answer

module _ (text : List ℕ) where
  -- the lines tell what they tell
  told_found : (t : Told) → told text ≡ Ok t → NotNot (HasReading text)
  told_found t e never = first_found (IsLawfulRow t.listing) t.listing.rows (λ rows. elim rows [
    | inr f ↦ never (Err (record { line = f.0 + 2; what = Laws }), unlawful t f.0 e f.1 refl)
    | inl lawful ↦ first_found (IsRuleOf t.listing) t.listing.rules (λ rules. elim rules [
      | inr f ↦ never (Err (record { line = length t.listing.rows + f.0 + 2; what = Values }), unruled t f.0 e lawful f.1 refl)
      | inl each ↦ first_found (IsValueOf (listing_meant t)) t.listing.values (λ values. elim values [
        | inr f ↦ never (Err (record { line = length t.listing.rows + length t.listing.rules + f.0 + 2; what = Values }), unvalued t f.0 e lawful each f.1 refl)
        | inl meant ↦ never (Ok (listing_meant t), read t e lawful each meant refl)
      ])
    ])
  ])

  pub read_found : (r : Result Told ListingFault) → told text ≡ r → NotNot (HasReading text)
  read_found (Err fault) e never = never (Err fault, unformed fault e refl)
  read_found (Ok t) e never = told_found t e never

-- a bound of the darts that have rows
abbrev pub Bound : List ListRow → Type 0
Bound rows = (top : ℕ) × ((d : ℕ) → HasRow rows d → d < top)

bound_more : (row : ListRow) (rows : List ListRow) → Bound rows → Bound (row ∷ rows)
bound_more row rows rest = (row.dart + 1 + rest.0, λ d h. here d (row.dart == d) refl h)
  where
    here : (d : ℕ) (b : Bool) → (row.dart == d) ≡ b → IsSome (cond (row.dart == d) (Some row.links) (row_in rows d)) → d < row.dart + 1 + rest.0
    here d true e h = omega (arith, eqb-true row.dart d e)
    here d false e h = let low = rest.1 d (subst (λ (c : Bool). IsSome (cond c (Some row.links) (row_in rows d))) e h) in omega (arith, low)

pub bound : (rows : List ListRow) → Bound rows
bound [] = (0, λ d h. absurd (cc (h)))
bound (row ∷ rows) = bound_more row rows (bound rows)

pub audit_found : (text : List ℕ) → NotNot ((answer : List ℕ) × (status : ℕ) × AuditAnswer text answer status)
audit_found text never = read_found text (told text) refl (λ reading. go reading.0 reading.1)
  where
    go : (answer : Result Listing ListingFault) → Reads text answer → ⊥
    go (Err fault) r = never (fault_line fault, 3, inl (fault, r, refl, refl))
    go (Ok l) r =
        let top = bound l.rows in
        counts_among_found l.kind l.dim (HasRow l.rows) (length l.rows) (links_in l.rows) top.0 top.1 (λ counts.
        never (replies_text (Shown l ∷ Counts counts.0 ∷ []), 0, inr (l, counts.0, r, counts.1, refl, refl)))
