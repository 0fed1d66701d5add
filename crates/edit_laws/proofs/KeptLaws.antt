-- Edits that change no link keep the laws.
use Rattle.std.proofs.Common.{◌≡◌, ℕ, ap, sym, ◌∙◌}
use Rattle.map_defs.specs.Kind.{Kind, inverse}
use Rattle.map_defs.specs.Links.{Links}
use Rattle.map_defs.specs.Laws.{Laws}
use Rattle.map_defs.specs.Rows.{Rows, links_of}
use Rattle.map_defs.specs.Edits.{with_births, after_edit}
use Rattle.edit_laws.proofs.EditPlain.{births_edit, death_edit}
use Rattle.edit_laws.proofs.RowWrites.{births-links, none-links}

-- the laws are of the links alone
pub laws-same : (k : Kind) (L N : Links) → ((i x : ℕ) → N i x ≡ L i x) → Laws k L → Laws k N
laws-same k L N same laws = record {
  nil = λ i. same i 0 ∙ laws.nil i;
  back = λ i x linked. ap (N (inverse k i)) (same i x) ∙ same (inverse k i) (L i x) ∙ laws.back i x (λ none. linked (same i x ∙ none));
  apart = λ i x own dart fixed. laws.apart i x own dart (sym (same i x) ∙ fixed);
  square = λ i j x far.
      ap (N (inverse k i)) (same j x) ∙ same (inverse k i) (L j x) ∙ laws.square i j x far
      ∙ sym (same (inverse k j) (L i x)) ∙ sym (ap (N (inverse k j)) (same i x));
}

pub births-keep : (k : Kind) (n births : ℕ) (rows : Rows) → Laws k (links_of rows) → Laws k (links_of (after_edit n (births_edit births) rows))
births-keep k n births rows laws =
    laws-same k (links_of rows) (links_of (after_edit n (births_edit births) rows)) (births-links n births rows) laws

pub death-keeps : (k : Kind) (n : ℕ) (rows : Rows) (d : ℕ) → ((i : ℕ) → links_of rows i d ≡ 0) → Laws k (links_of rows)
    → Laws k (links_of (after_edit n (death_edit d) rows))
death-keeps k n rows d free laws =
    laws-same k (links_of rows) (links_of (after_edit n (death_edit d) rows))
    (λ i x. none-links (with_births n 0 rows) d (λ j. births-links n 0 rows j d ∙ free j) i x ∙ births-links n 0 rows i x) laws
