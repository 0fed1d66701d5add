-- What the half of a listing answers, by what was found of the listing's links.
use Rattle.std.proofs.Common.{◌≡◌, ℕ, ◌+◌, ◌++◌, ◌↔◌, List, length, Option, Some, None, IfSome, codes, refl, sym, subst, inl, inr}
use Rattle.std.specs.Option.{option_map}
use Rattle.map_defs.specs.Kind.{Kind, alpha, beta}
use Rattle.map_defs.specs.Rows.{Rows, IsLive, links_of}
use Rattle.half_defs.specs.Orientation.{Sign, IsPositive, OrientFault, HasFault, IsOriented}
use Rattle.half_defs.specs.Halves.{AreOrigins, IsHalf, IsDouble, HasDarts}
use Rattle.half_laws.proofs.SameLinks.{fault-same, oriented-same, origins-same, half-same, double-same}
use Rattle.machine_defs.specs.Listing.{Listing}
use Rattle.machine_defs.specs.ListingFaults.{HasRow, links_in}
use Rattle.machine_defs.specs.Halving.{MapHalfAnswer, listing_of_rows, orient_line}
use Rattle.machine_defs.specs.Text.{listing_text, numbers_text}
use Rattle.map_run.specs.Halves.{ListingHalfAnswer}

-- the links of these rows are those of the listing
module _ (l : Listing) (n : ℕ) (dims : l.dim ≡ n) (rows : Rows) (live : (d : ℕ) → IsLive rows d ↔ HasRow l.rows d) (links : (i d : ℕ) → links_of rows i d ≡ links_in l.rows i d) where
  answer-in : (k : Kind) (text : List ℕ) (status : ℕ) → l.kind ≡ k → MapHalfAnswer k n (HasRow l.rows) (links_in l.rows) text status → ListingHalfAnswer l text status
  answer-in k text status kinds answer =
      subst (λ (m : ℕ). MapHalfAnswer l.kind m (HasRow l.rows) (links_in l.rows) text status) (sym dims)
      (subst (λ (j : Kind). MapHalfAnswer j n (HasRow l.rows) (links_in l.rows) text status) (sym kinds) answer)

  pub tells-fault : (fault : OrientFault) → l.kind ≡ alpha → HasFault n (IsLive rows) (links_of rows) fault → ListingHalfAnswer l (orient_line fault) 3
  tells-fault fault kinds has =
      answer-in alpha (orient_line fault) 3 kinds (inl (fault, fault-same n (IsLive rows) (HasRow l.rows) (links_of rows) (links_in l.rows) live links fault has, refl, refl))

  -- so does the fault of a call; want of memory tells none
  pub tells-told : (fault : Option OrientFault) → l.kind ≡ alpha → IfSome fault (HasFault n (IsLive rows) (links_of rows)) → (line : List ℕ) → option_map orient_line fault ≡ Some line
      → ListingHalfAnswer l line 3
  tells-told None kinds has line is = absurd cc
  tells-told (Some fault) kinds has line is = subst (λ (text : List ℕ). ListingHalfAnswer l text 3) (let same = is in cc) (tells-fault fault kinds has)

  pub tells-half : (signs : List Sign) (origins : List ℕ) (new : Rows) (listing : Listing) → l.kind ≡ alpha → IsOriented n (IsLive rows) (links_of rows) signs
      → AreOrigins (IsPositive signs) origins → HasDarts n (length origins) new → IsHalf n (links_of rows) origins (links_of new) → listing ≡ listing_of_rows beta n new
      → ListingHalfAnswer l (listing_text listing ++ numbers_text (codes "from") origins) 0
  tells-half signs origins new listing kinds oriented positive darts half is =
      answer-in alpha (listing_text listing ++ numbers_text (codes "from") origins) 0 kinds (inr (
        record {
          signs = signs;
          origins = origins;
          rows = new;
          oriented = oriented-same n (IsLive rows) (HasRow l.rows) (links_of rows) (links_in l.rows) live links signs oriented;
          positive = positive;
          darts = darts;
          half = half-same n (IsLive rows) (HasRow l.rows) (links_of rows) (links_in l.rows) live links origins (links_of new) half;
          told = rw is refl;
        },
        refl,
      ))

  pub tells-double : (origins : List ℕ) (new : Rows) (listing : Listing) → l.kind ≡ beta → AreOrigins (IsLive rows) origins
      → HasDarts n (length origins + length origins) new → IsDouble n (links_of rows) origins (links_of new) → listing ≡ listing_of_rows alpha n new
      → ListingHalfAnswer l (listing_text listing ++ numbers_text (codes "from") origins) 0
  tells-double origins new listing kinds are darts double is =
      answer-in beta (listing_text listing ++ numbers_text (codes "from") origins) 0 kinds (
        record {
          origins = origins;
          rows = new;
          live = origins-same n (IsLive rows) (HasRow l.rows) (links_of rows) (links_in l.rows) live links origins are;
          darts = darts;
          double = double-same n (IsLive rows) (HasRow l.rows) (links_of rows) (links_in l.rows) live links origins (links_of new) double;
          told = rw is refl;
        },
        refl,
      )
