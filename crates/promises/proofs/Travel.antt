-- What an entry has shown where it accepts; and travel: at each point of its run the order names every sample once, and kernel index, label and
-- linear term at a place are its sample's, and where ceilings travel the ceiling. Assumes nothing.
use Prim.Native.Nat.{ℕ, ◌+◌, ◌*◌}
use mathlib.Core.Bool.{true}
use mathlib.Core.List.{List}
use mathlib.Core.Path.{◌≡◌, refl, sym, ap, ◌∙◌}
use native.Mathlib.Omega.{arith}
use lib.Ieee.{nan}
use lib.ListN.{length, get_or}
use Rattle.answer.specs.Lent.{Lent, Whole}
use Rattle.classification.specs.Entries.{scratch_of, fitted}
use Rattle.classification.proofs.Laws.{Usable}
use Rattle.fits.proofs.Loaded.{ready_loaded, sample_loaded, index_loaded, label_loaded, linear_loaded, ceiling_loaded}
use Rattle.judge.specs.Sizes.{Room}
use Rattle.modes.specs.Modes.{travels}
use Rattle.modes.specs.declared.Mode.TheVariants.{Travelling}
use Rattle.solver.specs.Run.{problem_of}
use Rattle.solver.specs.declared.Given.{Given}
use Rattle.state.specs.Fields.{sample}
use Rattle.state.specs.Lists.{Ready}
use Rattle.trace.specs.Trace.{start_of}
use Rattle.trace.proofs.Rests.{same_started}
use Rattle.travel.specs.Travel.{Fresh, Travelled, OwnCeilings}
use Rattle.travel.proofs.Ceilings.{ceilings_runs}
use Rattle.travel.proofs.Travel.{travelled_from}
use Rattle.promises.specs.Fit.{Fit, start_from, after}

-- the outcome o is that of the fit, over lists that suffice
pub record Served (k : Fit) (m : List ℕ) (budget : ℕ) (d : Lent) (o : Whole) : Type 0 where
  pub square : k.given.side ≡ k.given.n
  pub room : Room k.given.n (length m) (length d.crate) (length d.home) (length d.floats) (length d.numbers) (length d.bytes)
  pub usable : Usable k.given.n m budget
  pub same : o ≡ fitted k.given k.how m k.labels k.ceilings k.weights k.terms budget d

pub travelling_travels : travels Travelling ≡ true
unfolding travels
travelling_travels = refl

module _ {k : Fit} {m : List ℕ} {budget : ℕ} {d : Lent} {o : Whole} (v : Served k m budget d o) where
  abbrev g : Given
  g = k.given

  pub ready_start : Ready (problem_of g m) (start_from k m d)
  ready_start =
      rw v.square (ready_loaded g.n g.kind m k.labels k.ceilings k.weights k.terms (scratch_of d) v.usable.matrix v.room.floats v.room.numbers v.room.bytes)

  pub fresh_start : Fresh g.n (start_from k m d)
  fresh_start = record {
    order = λ i h. sample_loaded g.n d.numbers v.room.numbers g.n i (omega arith) h;
    index = λ i h. index_loaded g.n d.numbers v.room.numbers g.n i (omega arith) h;
  }

  pub served_travels : (t : ℕ) → Travelled g.n (λ s. get_or k.labels s 0) (λ s. get_or k.terms s nan) (after k m d t).state
  served_travels t =
      let w = travelled_from g m k.ceilings (start_from k m d) t ready_start fresh_start in
      let at : ℕ → ℕ = λ i. sample (after k m d t).state i in
      record {
        order = w.order;
        paired = w.paired;
        label = λ i h. w.label i h ∙ label_loaded k.labels d.bytes g.n (at i) v.room.bytes (w.order.within.below i h);
        term = λ i h.
            w.term i h
            ∙ linear_loaded g.n k.ceilings k.weights k.terms d.floats v.room.floats g.n (at i) (omega arith) (w.order.within.below i h);
      }

  -- where ceilings travel, each position has its sample's
  pub served_ceilings : travels g.mode ≡ true → (t : ℕ) → OwnCeilings g.n (λ s. get_or k.ceilings s nan) (after k m d t).state
  served_ceilings h t =
      (ceilings_runs g m k.ceilings h (λ s. get_or k.ceilings s nan) (start_of g m k.ceilings (start_from k m d)) t (omega arith)
      (let e = same_started (problem_of g m) k.ceilings (start_from k m d) in
      record {
        room = rw e.long ready_start.floats;
        many = ready_start.indexed.long;
        upper = λ i l.
            e.at (3 * g.n + i) (omega arith) (omega arith)
            ∙ ceiling_loaded g.n k.ceilings k.weights k.terms d.floats v.room.floats g.n i (omega arith) l
            ∙ ap (λ (s : ℕ). get_or k.ceilings s nan) (sym (fresh_start.order i l));
      })).upper
