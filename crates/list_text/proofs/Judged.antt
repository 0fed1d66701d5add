-- From what is found in the lines of a text to what reading it answers.
use Rattle.std.proofs.Common.{◌≡◌, ℕ, ◌⊎◌, List, Ok, Err, refl, inl, inr}
use Rattle.std.specs.Prelude.{All}
use Rattle.machine_defs.specs.ListingForm as text
use Rattle.machine_defs.specs.ListingFaults.{unformed, unlawful, unruled, unvalued, IsLawfulRow, IsRuleOf}
use Rattle.list_text.specs.declared.fault.ListFault.{ListFault}
use Rattle.list_text.specs.declared.fault.ListFault.TheVariants.{Bad, NoMemory}
use Rattle.list_text.specs.Meanings.{meaning, IsFault, IsReadAs}
use Rattle.list_text.specs.Judging.{IsLawsFault, IsRulesFault, IsValuesFault}

pub unformed-is : (bytes : List ℕ) (fault : ListFault) → IsFault fault (text.told bytes) → IsReadAs bytes (Err fault)
unformed-is bytes (Bad line what) h = unformed (record { line = line; what = meaning what }) h refl
unformed-is bytes NoMemory h = tt

pub unlawful-is : (bytes : List ℕ) (t : text.Told) (fault : ListFault) → text.told bytes ≡ Ok t → IsLawsFault t fault → IsReadAs bytes (Err fault)
unlawful-is bytes t fault h f = rw f.2 (unlawful t f.0 h f.1 refl)

pub unruled-is : (bytes : List ℕ) (t : text.Told) (fault : ListFault) → text.told bytes ≡ Ok t → All (IsLawfulRow t.listing) t.listing.rows
    → IsRulesFault t fault → IsReadAs bytes (Err fault)
unruled-is bytes t fault h rows f = rw f.2 (unruled t f.0 h rows f.1 refl)

pub unvalued-is : (bytes : List ℕ) (t : text.Told) (fault : ListFault) → text.told bytes ≡ Ok t → All (IsLawfulRow t.listing) t.listing.rows
    → All (IsRuleOf t.listing) t.listing.rules → (fault ≡ NoMemory) ⊎ IsValuesFault t fault → IsReadAs bytes (Err fault)
unvalued-is bytes t fault h rows rules (inl f) = rw f tt
unvalued-is bytes t fault h rows rules (inr f) = rw f.2 (unvalued t f.0 h rows rules f.1 refl)
