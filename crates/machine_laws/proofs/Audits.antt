-- One text is read in one way, and has one audit.
use Rattle.std.proofs.Common.{◌≡◌, ℕ, ◌+◌, ◌<◌, List, [], ◌∷◌, ◌++◌, length, get_or, Result, Ok, Err, sym, ap, ap₂, ◌∙◌, subst, inl, inr, arith}
use Rattle.std.specs.Prelude.{All}
use Rattle.std.proofs.lemmas.Bool.{cases_lt}
use Rattle.std.proofs.lemmas.List.{length-append, get_or_append_left, get_or-append-add}
use Rattle.machine_defs.specs.Listing.{Listing}
use Rattle.machine_defs.specs.ListingForm.{ListingFault, Laws, Values, Told, told}
use Rattle.machine_defs.specs.ListingFaults.{HasRow, links_in, IsFirstWithout, IsLawfulRow, IsRuleOf, IsValueOf, listing_meant, Reads, unformed, unlawful, unruled, unvalued, read}
use Rattle.machine_defs.specs.Text.{Shown, Counts, replies_text}
use Rattle.machine_defs.specs.Auditing.{AreListingCounts, fault_line, AuditAnswer}
use Rattle.machine_laws.proofs.Answers.{counts-among-one}

module _ {A : Type 0} (P : A → Type 0) (xs : List A) where
  -- where the first one stands
  within : (p : ℕ) → IsFirstWithout P xs p → p < length xs
  within p f = omega (arith, f.counted, ap length f.parts, length-append f.before (f.first ∷ f.behind))

  stands : (p : ℕ) (f : IsFirstWithout P xs p) → get_or xs p f.first ≡ f.first
  stands p f =
      let place : p ≡ length f.before + 0 = omega (arith, f.counted) in
      ap (λ (ys : List A). get_or ys p f.first) f.parts ∙ ap (λ (q : ℕ). get_or (f.before ++ f.first ∷ f.behind) q f.first) place
      ∙ get_or-append-add f.before (f.first ∷ f.behind) 0 f.first

  pub not-all : (p : ℕ) → IsFirstWithout P xs p → All P xs → ⊥
  not-all p f all = f.fails (subst P (stands p f) (all p f.first (within p f)))

  not-before : (p q : ℕ) → IsFirstWithout P xs p → IsFirstWithout P xs q → p < q → ⊥
  not-before p q f g less =
      let low : p < length g.before = omega (arith, g.counted) in
      let here : get_or xs p f.first ≡ get_or g.before p f.first =
      ap (λ (ys : List A). get_or ys p f.first) g.parts ∙ get_or_append_left g.before (g.first ∷ g.behind) f.first p low in
      f.fails (subst P (sym here ∙ stands p f) (g.all p f.first low))

  pub first-one : (p q : ℕ) → IsFirstWithout P xs p → IsFirstWithout P xs q → p ≡ q
  first-one p q f g = elim (cases_lt p q) [
    | inl less ↦ absurd (not-before p q f g less)
    | inr le ↦ elim (cases_lt q p) [
      | inl less ↦ absurd (not-before q p g f less)
      | inr ge ↦ omega arith
    ]
  ]

-- what the lines tell is one
module _ (text : List ℕ) where
  told-one : (t u : Told) → told text ≡ Ok t → told text ≡ Ok u → t ≡ u
  told-one t u a b = let same = sym a ∙ b in cc

  told-or-fault : {X : Type 0} (t : Told) (fault : ListingFault) → told text ≡ Ok t → told text ≡ Err fault → X
  told-or-fault t fault a b = absurd (let same = sym a ∙ b in cc)

  fault-one : (f g : ListingFault) → told text ≡ Err f → told text ≡ Err g → f ≡ g
  fault-one f g a b = let same = sym a ∙ b in cc

  abbrev Rows : Told → Type 0
  Rows t = All (IsLawfulRow t.listing) t.listing.rows

  abbrev Rules : Told → Type 0
  Rules t = All (IsRuleOf t.listing) t.listing.rules

  abbrev Meant : Told → Type 0
  Meant t = All (IsValueOf (listing_meant t)) t.listing.values

  unformed-is : (f : ListingFault) (answer : Result Listing ListingFault) → told text ≡ Err f → Reads text answer → answer ≡ Err f
  unformed-is f answer a (unformed g b is) = is ∙ ap (λ (h : ListingFault). Err h) (fault-one g f b a)
  unformed-is f answer a (unlawful t place b first is) = told-or-fault t f b a
  unformed-is f answer a (unruled t place b rows first is) = told-or-fault t f b a
  unformed-is f answer a (unvalued t place b rows rules first is) = told-or-fault t f b a
  unformed-is f answer a (read t b rows rules values is) = told-or-fault t f b a

  -- where the lines tell t, the answer is this one
  module _ (t : Told) (a : told text ≡ Ok t) (answer : Result Listing ListingFault) where
    unlawful-is : (place : ℕ) → IsFirstWithout (IsLawfulRow t.listing) t.listing.rows place → Reads text answer
        → answer ≡ Err (record { line = place + 2; what = Laws })
    unlawful-is place first (unformed g b is) = told-or-fault t g a b
    unlawful-is place first (unlawful u at b other is) =
        let same : u ≡ t = told-one u t b a in
        let o : IsFirstWithout (IsLawfulRow t.listing) t.listing.rows at = subst (λ (v : Told). IsFirstWithout (IsLawfulRow v.listing) v.listing.rows at) same other in
        is ∙ ap (λ (p : ℕ). Err (record { line = p + 2; what = Laws })) (first-one (IsLawfulRow t.listing) t.listing.rows at place o first)
    unlawful-is place first (unruled u at b rows other is) = absurd (not-all (IsLawfulRow t.listing) t.listing.rows place first (subst Rows (told-one u t b a) rows))
    unlawful-is place first (unvalued u at b rows rules other is) = absurd (not-all (IsLawfulRow t.listing) t.listing.rows place first (subst Rows (told-one u t b a) rows))
    unlawful-is place first (read u b rows rules values is) = absurd (not-all (IsLawfulRow t.listing) t.listing.rows place first (subst Rows (told-one u t b a) rows))

    unruled-is : (place : ℕ) → Rows t → IsFirstWithout (IsRuleOf t.listing) t.listing.rules place → Reads text answer
        → answer ≡ Err (record { line = length t.listing.rows + place + 2; what = Values })
    unruled-is place all first (unformed g b is) = told-or-fault t g a b
    unruled-is place all first (unlawful u at b other is) =
        absurd (not-all (IsLawfulRow t.listing) t.listing.rows at
        (subst (λ (v : Told). IsFirstWithout (IsLawfulRow v.listing) v.listing.rows at) (told-one u t b a) other) all)
    unruled-is place all first (unruled u at b rows other is) =
        let same : u ≡ t = told-one u t b a in
        let o : IsFirstWithout (IsRuleOf t.listing) t.listing.rules at = subst (λ (v : Told). IsFirstWithout (IsRuleOf v.listing) v.listing.rules at) same other in
        is ∙ ap₂ (λ (v : Told) (p : ℕ). Err (record { line = length v.listing.rows + p + 2; what = Values })) same
        (first-one (IsRuleOf t.listing) t.listing.rules at place o first)
    unruled-is place all first (unvalued u at b rows rules other is) = absurd (not-all (IsRuleOf t.listing) t.listing.rules place first (subst Rules (told-one u t b a) rules))
    unruled-is place all first (read u b rows rules values is) = absurd (not-all (IsRuleOf t.listing) t.listing.rules place first (subst Rules (told-one u t b a) rules))

    unvalued-is : (place : ℕ) → Rows t → Rules t → IsFirstWithout (IsValueOf (listing_meant t)) t.listing.values place → Reads text answer
        → answer ≡ Err (record { line = length t.listing.rows + length t.listing.rules + place + 2; what = Values })
    unvalued-is place all each first (unformed g b is) = told-or-fault t g a b
    unvalued-is place all each first (unlawful u at b other is) =
        absurd (not-all (IsLawfulRow t.listing) t.listing.rows at
        (subst (λ (v : Told). IsFirstWithout (IsLawfulRow v.listing) v.listing.rows at) (told-one u t b a) other) all)
    unvalued-is place all each first (unruled u at b rows other is) =
        absurd (not-all (IsRuleOf t.listing) t.listing.rules at
        (subst (λ (v : Told). IsFirstWithout (IsRuleOf v.listing) v.listing.rules at) (told-one u t b a) other) each)
    unvalued-is place all each first (unvalued u at b rows rules other is) =
        let same : u ≡ t = told-one u t b a in
        let o : IsFirstWithout (IsValueOf (listing_meant t)) t.listing.values at = subst (λ (v : Told). IsFirstWithout (IsValueOf (listing_meant v)) v.listing.values at) same other in
        is ∙ ap₂ (λ (v : Told) (p : ℕ). Err (record { line = length v.listing.rows + length v.listing.rules + p + 2; what = Values })) same
        (first-one (IsValueOf (listing_meant t)) t.listing.values at place o first)
    unvalued-is place all each first (read u b rows rules values is) =
        absurd (not-all (IsValueOf (listing_meant t)) t.listing.values place first (subst Meant (told-one u t b a) values))

    read-is : Rows t → Rules t → Meant t → Reads text answer → answer ≡ Ok (listing_meant t)
    read-is all each meant (unformed g b is) = told-or-fault t g a b
    read-is all each meant (unlawful u at b other is) =
        absurd (not-all (IsLawfulRow t.listing) t.listing.rows at
        (subst (λ (v : Told). IsFirstWithout (IsLawfulRow v.listing) v.listing.rows at) (told-one u t b a) other) all)
    read-is all each meant (unruled u at b rows other is) =
        absurd (not-all (IsRuleOf t.listing) t.listing.rules at
        (subst (λ (v : Told). IsFirstWithout (IsRuleOf v.listing) v.listing.rules at) (told-one u t b a) other) each)
    read-is all each meant (unvalued u at b rows rules other is) =
        absurd (not-all (IsValueOf (listing_meant t)) t.listing.values at
        (subst (λ (v : Told). IsFirstWithout (IsValueOf (listing_meant v)) v.listing.values at) (told-one u t b a) other) meant)
    read-is all each meant (read u b rows rules values is) = is ∙ ap (λ (v : Told). Ok (listing_meant v)) (told-one u t b a)

  -- a text is read in one way
  pub reads-one : (x y : Result Listing ListingFault) → Reads text x → Reads text y → x ≡ y
  reads-one x y (unformed f a is) r = is ∙ sym (unformed-is f y a r)
  reads-one x y (unlawful t place a first is) r = is ∙ sym (unlawful-is t a y place first r)
  reads-one x y (unruled t place a rows first is) r = is ∙ sym (unruled-is t a y place rows first r)
  reads-one x y (unvalued t place a rows rules first is) r = is ∙ sym (unvalued-is t a y place rows rules first r)
  reads-one x y (read t a rows rules values is) r = is ∙ sym (read-is t a y rows rules values r)

-- and has one audit
pub audit-one : (bytes one other : List ℕ) (status status' : ℕ) → AuditAnswer bytes one status → AuditAnswer bytes other status' → (one ≡ other) × (status ≡ status')
audit-one bytes one other status status' (inl a) (inl b) =
    let same : a.0 ≡ b.0 = (let e = reads-one bytes (Err a.0) (Err b.0) a.1 b.1 in cc) in
    (a.2 ∙ ap fault_line same ∙ sym b.2, a.3 ∙ sym b.3)
audit-one bytes one other status status' (inl a) (inr b) = absurd (let e = reads-one bytes (Err a.0) (Ok b.0) a.1 b.2 in cc)
audit-one bytes one other status status' (inr a) (inl b) = absurd (let e = reads-one bytes (Ok a.0) (Err b.0) a.2 b.1 in cc)
audit-one bytes one other status status' (inr a) (inr b) =
    let same : a.0 ≡ b.0 = (let e = reads-one bytes (Ok a.0) (Ok b.0) a.2 b.2 in cc) in
    let l : Listing = b.0 in
    let counts : a.1 ≡ b.1 = counts-among-one l.kind l.dim (HasRow l.rows) (length l.rows) (links_in l.rows) a.1 b.1 (subst (λ (m : Listing). AreListingCounts m a.1) same a.3) b.3 in
    (a.4 ∙ ap₂ (λ (m : Listing) (cs : List ℕ). replies_text (Shown m ∷ Counts cs ∷ [])) same counts ∙ sym b.4, a.5 ∙ sym b.5)
