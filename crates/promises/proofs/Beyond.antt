-- Behind the scratch that n samples use, loading, running and clearing leave everything as it was. Assumes nothing.
use Prim.Native.Nat.{ℕ, zero, suc, ◌+◌, ◌*◌, ◌≤◌, ◌<◌}
use mathlib.Core.List.{List}
use mathlib.Core.Path.{◌≡◌, refl, ◌∙◌}
use native.Mathlib.Omega.{arith}
use lib.Ieee.{Float, nan}
use lib.ListN.{length, get_or, set}
use lib.Seq.{get_or-set_other}
use Rattle.alpha.specs.Weight as Weight
use Rattle.answer.specs.Lent.{cleared}
use Rattle.fits.specs.Load.{loaded_floats, loaded_numbers, loaded_labels, loaded}
use Rattle.fits.proofs.Loaded.{length_floats, length_numbers, length_labels}
use Rattle.lists.specs.Filled.{filled_to}
use Rattle.lists.proofs.Later.{prefix_later, length_filled, filled_later}
use Rattle.modes.specs.Modes.{repaired}
use Rattle.reconstruct.specs.Reconstruct.{reconstructed}
use Rattle.solver.specs.End.{trained}
use Rattle.solver.specs.Run.{problem_of}
use Rattle.solver.specs.declared.Given.{Given}
use Rattle.standing.proofs.Rest.{started_behind}
use Rattle.state.specs.Lists.{Problem, State, over}
use Rattle.state.specs.Moving.{swapped, moved}
use Rattle.state.proofs.Moves.{length_swapped, length_fields, fields_behind}
use Rattle.trace.proofs.Kept.{pair_keeps, trained_keeps}
use Rattle.trace.proofs.Rests.{same_reconstructed}
use Rattle.update.specs.Update.{updated_state}
use Rattle.update.proofs.Left.{length_updated, behind}
use Rattle.promises.specs.Leaves.{Beyond}

module _ {A : Type 0} (x : A) (k : ℕ) where
  pub beyond_refl : (s : List A) → Beyond x k s s
  beyond_refl s = record { long = refl; at = λ j h. refl }

  pub beyond_trans : {s t u : List A} → Beyond x k s t → Beyond x k t u → Beyond x k s u
  beyond_trans a b = record { long = b.long ∙ a.long; at = λ j h. b.at j h ∙ a.at j h }

  pub filled_beyond : (y : A) (t : List A) → Beyond x k t (filled_to y t k)
  filled_beyond y t = record { long = length_filled x y t k; at = filled_later x y t k }

-- the three lists of the scratch
pub record Scratch (n : ℕ) (s t : State) : Type 0 where
  pub floats : Beyond nan (7 * n) s.floats t.floats
  pub numbers : Beyond 0 (2 * n) s.numbers t.numbers
  pub labels : Beyond 0 n s.labels t.labels

pub scratch_refl : (n : ℕ) (s : State) → Scratch n s s
scratch_refl n s = record { floats = beyond_refl nan (7 * n) s.floats; numbers = beyond_refl 0 (2 * n) s.numbers; labels = beyond_refl 0 n s.labels }

pub scratch_trans : {n : ℕ} {s t u : State} → Scratch n s t → Scratch n t u → Scratch n s u
scratch_trans {n} a b = record {
  floats = beyond_trans nan (7 * n) a.floats b.floats;
  numbers = beyond_trans 0 (2 * n) a.numbers b.numbers;
  labels = beyond_trans 0 n a.labels b.labels;
}

-- ---- loaded

floats_later : (n : ℕ) (c a p f : List Float) (k j : ℕ) → k ≤ n → 7 * n ≤ j → get_or (loaded_floats n c a p f k) j nan ≡ get_or f j nan
unfolding loaded_floats
floats_later n c a p f zero j l h = refl
floats_later n c a p f (suc k) j l h =
    let t = loaded_floats n c a p f k in
    let t2 = set t (2 * n + k) (get_or a k nan) in
    get_or-set_other (set t2 (3 * n + k) (get_or c k nan)) (4 * n + k) j (get_or p k nan) nan (λ (e : j ≡ 4 * n + k). omega arith)
    ∙ get_or-set_other t2 (3 * n + k) j (get_or c k nan) nan (λ (e : j ≡ 3 * n + k). omega arith)
    ∙ get_or-set_other t (2 * n + k) j (get_or a k nan) nan (λ (e : j ≡ 2 * n + k). omega arith)
    ∙ floats_later n c a p f k j (omega arith) h

numbers_later : (n : ℕ) (u : List ℕ) (k j : ℕ) → k ≤ n → 2 * n ≤ j → get_or (loaded_numbers n u k) j 0 ≡ get_or u j 0
unfolding loaded_numbers
numbers_later n u zero j l h = refl
numbers_later n u (suc k) j l h =
    let t = loaded_numbers n u k in
    get_or-set_other (set t k k) (n + k) j k 0 (λ (e : j ≡ n + k). omega arith)
    ∙ get_or-set_other t k j k 0 (λ (e : j ≡ k). omega arith)
    ∙ numbers_later n u k j (omega arith) h

loaded_beyond : (n : ℕ) (l : List ℕ) (c a p : List Float) (s : State) → Scratch n s (loaded n l c a p s)
unfolding loaded_labels
loaded_beyond n l c a p s = record {
  floats = record { long = length_floats n c a p s.floats n; at = λ j h. floats_later n c a p s.floats n j (omega arith) h };
  numbers = record { long = length_numbers n s.numbers n; at = λ j h. numbers_later n s.numbers n j (omega arith) h };
  labels = record { long = length_labels l s.labels n; at = prefix_later 0 (loaded_labels l s.labels) (λ k. get_or l k 0) (λ k. refl) n };
}

-- ---- run

module _ (g : Given) (m : List ℕ) (b : List Float) (s : State) (room_f : 7 * g.n ≤ length s.floats) (room_u : 2 * g.n ≤ length s.numbers) where
  abbrev p : Problem
  p = problem_of g m

  abbrev P : State → Type 0
  P = Scratch g.n s

  on_rebuilt : (t : State) (a : ℕ) → a ≤ g.n → P t → P (over t (reconstructed p (repaired g.mode) a t))
  on_rebuilt t a l k = record {
    floats = beyond_trans nan (7 * g.n) k.floats (record {
      long = (same_reconstructed p (repaired g.mode) a l 0 t).long;
      at = λ j h. (same_reconstructed p (repaired g.mode) a l (suc j) t).at j (omega arith) (omega arith);
    });
    numbers = k.numbers;
    labels = k.labels;
  }

  on_moved : (t : State) (i j : ℕ) → i < g.n → j < g.n → P t → P (moved g.n t i j)
  unfolding moved swapped
  on_moved t i j x y k =
      let lf = k.floats.long in
      let lu = k.numbers.long in
      record {
        floats = beyond_trans nan (7 * g.n) k.floats (record {
          long = length_fields nan g.n t.floats i j 5;
          at = λ q h. fields_behind nan g.n t.floats i j x y 5 q (omega arith) (omega arith);
        });
        numbers = beyond_trans 0 (2 * g.n) k.numbers (record {
          long = length_fields 0 g.n t.numbers i j 2;
          at = λ q h. fields_behind 0 g.n t.numbers i j x y 2 q (omega arith) h;
        });
        labels = beyond_trans 0 g.n k.labels (record {
          long = length_swapped 0 t.labels i j;
          at = λ q h.
              get_or-set_other (set t.labels i (get_or t.labels j 0)) j q (get_or t.labels i 0) 0 (λ (e : q ≡ j). omega arith)
              ∙ get_or-set_other t.labels i q (get_or t.labels j 0) 0 (λ (e : q ≡ i). omega arith);
        });
      }

  on_pair : (t : State) (i j a : ℕ) → i < a → j < a → a ≤ g.n → (i ≡ j → ⊥) → P t → P (updated_state p b g.mode g.floor t i j a)
  on_pair t i j a x y l e k =
      let lf = k.floats.long in
      record {
        floats = beyond_trans nan (7 * g.n) k.floats (record {
          long = length_updated p b g.mode g.floor t i j a;
          at = λ q h. behind p b g.mode g.floor t i j a (omega arith) (omega arith) l (omega arith) q (omega arith);
        });
        numbers = k.numbers;
        labels = k.labels;
      }

  trained_beyond : (budget : ℕ) → g.side ≤ g.n → Scratch g.n s (trained g m b budget s).state
  trained_beyond budget square =
      let r = started_behind p b s square in
      (trained_keeps g m P on_rebuilt on_moved b (pair_keeps g m P b on_pair) budget s
      (record { floats = record { long = r.long; at = r.at }; numbers = beyond_refl 0 (2 * g.n) s.numbers; labels = beyond_refl 0 g.n s.labels })).kept

-- ---- cleared

pub cleared_beyond : (n : ℕ) (s : State) → Scratch n s (cleared n s)
cleared_beyond n s = record {
  floats = filled_beyond nan (7 * n) Weight.zero s.floats;
  numbers = filled_beyond 0 (2 * n) 0 s.numbers;
  labels = filled_beyond 0 n 0 s.labels;
}

-- ---- loaded, then run

pub run_beyond : (g : Given) (m l : List ℕ) (c a p : List Float) (budget : ℕ) (s : State) → g.side ≤ g.n → 7 * g.n ≤ length s.floats → 2 * g.n ≤ length s.numbers
    → Scratch g.n s (trained g m c budget (loaded g.n l c a p s)).state
run_beyond g m l c a p budget s square f u =
    let w = loaded_beyond g.n l c a p s in
    let lf = w.floats.long in
    let lu = w.numbers.long in
    scratch_trans w (trained_beyond g m c (loaded g.n l c a p s) (omega arith) (omega arith) budget square)
