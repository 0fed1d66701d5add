-- What the machine does where an undo is taken back.
use Rattle.std.proofs.Common.{◌≡◌, List, ℕ, map, refl, sym, ap, ◌∙◌, subst, inl, inr}
use Rattle.map_defs.specs.Values.{Hook}
use Rattle.map_defs.specs.Refusal.{NoRedo}
use Rattle.machine_defs.specs.State.{Content}
use Rattle.machine_defs.specs.Script.{Redo}
use Rattle.machine_defs.specs.Machine.{Step}
use Rattle.machine_defs.specs.Text as text
use Rattle.journal_laws.specs.Following.{all_put_forward}
use Rattle.trail_laws.specs.Trails.{Ahead, Trail, IsLastAhead, CanGoForth, steps_ahead, forth, IsOrdered}
use Rattle.trail_laws.specs.Told.{undone_of, told, after_steps, IsTraced}
use Rattle.trail_laws.proofs.TrailFacts.{last-ahead}
use Rattle.trail_laws.proofs.UndoneNames.{ahead-told, redo-told}
use Rattle.trail_laws.proofs.Onward.{onward-kept, onward-follows, onward-differ}
use Rattle.trail_laws.proofs.Redoing.{told-forth, traced-forth}
use Rattle.valued_map.specs.Undoing.{AreStepsFrom}

module _ (now : Content) (t : Trail) (h : IsTraced now t) (o : IsOrdered t) (hook : Hook) (name : List ℕ) where
  pub redo-refused : (CanGoForth t name → ⊥) → Step hook (told now t) (Redo name) (text.Refused NoRedo) (told now t)
  redo-refused none = inl (λ can. none ((redo-told now t o name).0 can), refl, refl)

  module _ (others : List Ahead) (last : Ahead) (is : IsLastAhead t name others last) where
    -- the steps that an undo took back lead on from the content of now
    pub steps-lead-on : AreStepsFrom now (steps_ahead t last)
    steps-lead-on = record {
      kept = λ j small. onward-kept now t last h o (last-ahead t others last o is.there) j now small;
      follow = λ j inside. onward-follows now t last h o (last-ahead t others last o is.there) j inside;
      differ = λ j e inside. onward-differ now t last h o (last-ahead t others last o is.there) j e inside;
    }

    module _ (next : Content) (on : next ≡ all_put_forward (steps_ahead t last) now) (u : Trail) (gone : u ≡ forth t others last) where
      pub redo-obeyed : Step hook (told now t) (Redo name) (text.Done 0 0) (told next u)
      redo-obeyed =
          let one = ahead-told now t o name others last is in
          let before = map (undone_of now t) others in
          let taken = undone_of now t last in
          inr ((before, taken, one), (before, taken, one, (refl, ap (λ (c : Content). told c u) on ∙ ap (told (after_steps now t last)) gone ∙ told-forth now t others last h o (last-ahead t others last o is.there))))

      -- what the map keeps then
      pub redo-traced : IsTraced next u
      redo-traced =
          subst (λ (v : Trail). IsTraced next v) (sym gone)
          (subst (λ (c : Content). IsTraced c (forth t others last)) (sym on) (traced-forth now t others last h o (last-ahead t others last o is.there)))
