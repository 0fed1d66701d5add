-- A listing has one half.
use Rattle.std.proofs.Common.{◌≡◌, ℕ, zero, suc, ◌+◌, List, [], ◌∷◌, ◌++◌, length, Some, None, Ok, Err, codes, refl, sym, ap, ap₂, ◌∙◌, subst, inl, inr, arith}
use Rattle.map_defs.specs.Kind.{Kind, alpha, beta}
use Rattle.map_defs.specs.Laws.{Laws}
use Rattle.map_defs.specs.Links.{Links, LeadsToLive, HasDimension}
use Rattle.map_defs.specs.Rows.{Rows, IsLive, links_of}
use Rattle.link_laws.proofs.SameRows.{same_rows}
use Rattle.half_defs.specs.Orientation.{Sign, IsPositive, OrientFault, Boundary, Folded, Odd, HasFault}
use Rattle.half_defs.specs.Halves.{AreOrigins, IsHalf, IsDouble, HasDarts}
use Rattle.half_laws.proofs.HalfOnce.{origins_one, signs_one, no_fault, boundary_alone, fold_alone, odd_alone, half_one}
use Rattle.half_laws.proofs.DoubleOnce.{double_once}
use Rattle.half_laws.proofs.HalfLaws.{origin_some}
use Rattle.machine_defs.specs.Listing.{Listing, live_rows_from}
use Rattle.machine_defs.specs.ListingFaults.{HasRow, links_in}
use Rattle.machine_defs.specs.Auditing.{fault_line}
use Rattle.machine_defs.specs.Text.{listing_text, numbers_text}
use Rattle.machine_defs.specs.Halving.{orient_line, listing_of_rows, TellsHalf, TellsDouble, MapHalfAnswer, HalfAnswer}
use Rattle.machine_laws.proofs.Audits.{reads-one}
use Rattle.row_laws.proofs.ListedMaps.{IsListedMap, listed-map}

-- where no dart lives no row is listed
none-listed : (d : ℕ) (rows : Rows) → ((e : ℕ) → IsLive rows e → ⊥) → live_rows_from d rows ≡ []
none-listed d [] none = refl
none-listed d (None ∷ rows) none = none-listed (d + 1) rows (λ e live. none (suc e) live)
none-listed d (Some row ∷ rows) none = absurd (none 0 refl)

-- rows of the darts 1 to m are listed by their links
listed-one : (k : Kind) (n m : ℕ) (r s : Rows) → HasDarts n m r → HasDarts n m s → ((i d : ℕ) → links_of r i d ≡ links_of s i d) → listing_of_rows k n r ≡ listing_of_rows k n s
listed-one k n zero r s p q same =
    ap₂ (λ (m : ℕ) (rows : List _). let l : Listing = record { kind = k; dim = n; made = m; rows = rows; rules = []; values = []; marks = [] } in l) (p.made ∙ sym q.made)
    (none-listed 0 r (λ e live. let at = (p.live e).0 live in omega arith) ∙ sym (none-listed 0 s (λ e live. let at = (q.live e).0 live in omega arith)))
listed-one k n (suc m) r s p q same =
    ap (listing_of_rows k n) (same_rows n r s p.wide q.wide (let a = p.made in let b = q.made in omega (arith, a, b))
    (λ d. (λ live. (q.live d).1 ((p.live d).0 live), λ live. (p.live d).1 ((q.live d).0 live))) (λ i d h. same i d))

-- two faults of a map have one line
line-one : (n : ℕ) (Live : ℕ → Type 0) (L : Links) (f g : OrientFault) → HasFault n Live L f → HasFault n Live L g → orient_line f ≡ orient_line g
line-one n Live L Boundary g h h' = sym (ap orient_line (boundary_alone n Live L g h h'))
line-one n Live L (Folded d i) g h h' = sym (ap orient_line (fold_alone n Live L d i g h h'))
line-one n Live L (Odd d links) g h h' = let other = odd_alone n Live L d links g h h' in sym (ap orient_line other.1)

-- the text of a listing and of the darts behind it
abbrev text-of : Listing → List ℕ → List ℕ
text-of l origins = listing_text l ++ numbers_text (codes "from") origins

module _ (n : ℕ) (Live : ℕ → Type 0) (L : Links) (to : LeadsToLive Live L) (dim : HasDimension n L) where
  half-text-one : (one other : List ℕ) → Laws alpha L → TellsHalf n Live L one → TellsHalf n Live L other → one ≡ other
  half-text-one one other laws a b = a.told ∙ ap₂ text-of (listed-one beta n (length b.origins) a.rows b.rows darts b.darts links) origins ∙ sym b.told
    where
      signs : a.signs ≡ b.signs
      signs = signs_one n Live L to dim a.signs b.signs a.oriented.signed b.oriented.signed

      origins : a.origins ≡ b.origins
      origins = origins_one (IsPositive b.signs) a.origins b.origins (subst (λ (s : List Sign). AreOrigins (IsPositive s) a.origins) signs a.positive) b.positive

      darts : HasDarts n (length b.origins) a.rows
      darts = subst (λ (os : List ℕ). HasDarts n (length os) a.rows) origins a.darts

      links : (i d : ℕ) → links_of a.rows i d ≡ links_of b.rows i d
      links = half_one n L b.origins b.positive.ascending (origin_some n Live L laws to b.signs b.oriented b.origins b.positive) (links_of a.rows) (links_of b.rows)
          (subst (λ (os : List ℕ). IsHalf n L os (links_of a.rows)) origins a.half) b.half

  double-text-one : (one other : List ℕ) → TellsDouble n Live L one → TellsDouble n Live L other → one ≡ other
  double-text-one one other a b = a.told ∙ ap₂ text-of (listed-one alpha n (length b.origins + length b.origins) a.rows b.rows darts b.darts links) origins ∙ sym b.told
    where
      origins : a.origins ≡ b.origins
      origins = origins_one Live a.origins b.origins a.live b.live

      darts : HasDarts n (length b.origins + length b.origins) a.rows
      darts = subst (λ (os : List ℕ). HasDarts n (length os + length os) a.rows) origins a.darts

      links : (i d : ℕ) → links_of a.rows i d ≡ links_of b.rows i d
      links = double_once Live b.origins b.live n L to (links_of a.rows) (links_of b.rows) (subst (λ (os : List ℕ). IsDouble n L os (links_of a.rows)) origins a.double) b.double

  map-half-one : (k : Kind) (one other : List ℕ) (status status' : ℕ) → Laws k L → MapHalfAnswer k n Live L one status → MapHalfAnswer k n Live L other status' → (one ≡ other) × (status ≡ status')
  map-half-one alpha one other status status' laws (inl (f, h, t, e)) (inl (g, h', t', e')) = (t ∙ line-one n Live L f g h h' ∙ sym t', e ∙ sym e')
  map-half-one alpha one other status status' laws (inl (f, h, t, e)) (inr (b, e')) = absurd (no_fault n Live L laws to b.signs b.oriented f h)
  map-half-one alpha one other status status' laws (inr (a, e)) (inl (g, h', t', e')) = absurd (no_fault n Live L laws to a.signs a.oriented g h')
  map-half-one alpha one other status status' laws (inr (a, e)) (inr (b, e')) = (half-text-one one other laws a b, e ∙ sym e')
  map-half-one beta one other status status' laws (a, e) (b, e') = (double-text-one one other a b, e ∙ sym e')

pub half-answer-one : (bytes one other : List ℕ) (status status' : ℕ) → HalfAnswer bytes one status → HalfAnswer bytes other status' → (one ≡ other) × (status ≡ status')
half-answer-one bytes one other status status' (inl a) (inl b) =
    let same : a.0 ≡ b.0 = (let e = reads-one bytes (Err a.0) (Err b.0) a.1 b.1 in cc) in
    (a.2 ∙ ap fault_line same ∙ sym b.2, a.3 ∙ sym b.3)
half-answer-one bytes one other status status' (inl a) (inr b) = absurd (let e = reads-one bytes (Err a.0) (Ok b.0) a.1 b.1 in cc)
half-answer-one bytes one other status status' (inr a) (inl b) = absurd (let e = reads-one bytes (Ok a.0) (Err b.0) a.1 b.1 in cc)
half-answer-one bytes one other status status' (inr a) (inr b) =
    let same : a.0 ≡ b.0 = (let e = reads-one bytes (Ok a.0) (Ok b.0) a.1 b.1 in cc) in
    let l : Listing = b.0 in
    let map : IsListedMap l = listed-map bytes l b.1 in
    map-half-one l.dim (HasRow l.rows) (links_in l.rows) map.live map.dimension l.kind one other status status' map.laws
    (subst (λ (m : Listing). MapHalfAnswer m.kind m.dim (HasRow m.rows) (links_in m.rows) one status) same a.2) b.2
