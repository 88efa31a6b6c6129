-- What a start and a step keep, and a run turn for turn. Assumes nothing.
use Prim.Native.Nat.{ℕ, zero, suc, ◌+◌, ◌*◌, ◌≤◌, ◌<◌}
use mathlib.Core.Bool.{Bool, true, false, not, cond, true≢false}
use mathlib.Core.List.{List}
use mathlib.Core.Path.{◌≡◌, refl, sym, ap, ◌∙◌}
use native.Mathlib.Decide.{ℕ_discrete}
use native.Mathlib.Omega.{arith}
use lib.Dec.{T}
use lib.Ieee.{Float, nan, binary64, fits}
use lib.ListN.{length, get_or}
use Rattle.kernel.specs.Row.{signed_of}
use Rattle.orderless.specs.Choice.{choice_in}
use Rattle.orderless.specs.Run.{spread, Course, passes, goes_on, brought_to, opened_to, opened}
use Rattle.orderless.specs.Sheet.{sized, read_in, entry}
use Rattle.orderless.specs.Step.{steps}
use Rattle.orderless.proofs.Fits.{steps_up, steps_down, start_up, start_down}
use Rattle.orderless.proofs.Laid.{steps_diagonal}
use Rattle.orderless.proofs.Starts.{length_brought, brought_other, opened_diagonal}
use Rattle.rho.specs.Rho.{positive_in}
use Rattle.rows.proofs.Filled.{filled_length, filled_other, filled_at}
use Rattle.sheet.specs.Ready.{SheetReady, Diagonal, Fitting}
use Rattle.solver.specs.declared.Given.{Given}
use Rattle.course.specs.Filled.{diagonal_in, joined_in}

pub not_true : (x : Bool) → not x ≡ true → x ≡ false
not_true true h = absurd (true≢false (sym h))
not_true false h = refl

pub not_false : (x : Bool) → not x ≡ false → x ≡ true
not_false true h = refl
not_false false h = absurd (true≢false h)

room : (nu : Bool) (n x : ℕ) → 5 * n ≤ x → sized nu n ≤ x
room true n x h = h
room false n x h = omega arith

-- ---- lists as long

pub ready_long : {g : Given} {m y : List ℕ} {f h : List Float} → SheetReady g m y f → length h ≡ length f → SheetReady g m y h
ready_long R e = record { matrix = R.matrix; square = R.square; labels = R.labels; floats = rw e R.floats }

-- ---- the diagonal in its field

module _ (g : Given) (m : List ℕ) (f : List Float) where
  pub length_diagonal : (k : ℕ) → length (diagonal_in g m f k) ≡ length f
  unfolding diagonal_in
  length_diagonal = filled_length (diagonal_in g m f) (λ k. 2 * g.n + k) (λ k x. entry g m k k) (λ k. refl) (λ h k q e. omega arith)

  -- nothing before its field is touched
  pub diagonal_other : (k q : ℕ) → q < 2 * g.n → get_or (diagonal_in g m f k) q nan ≡ get_or f q nan
  unfolding diagonal_in
  diagonal_other k q h = filled_other (diagonal_in g m f) (λ k. 2 * g.n + k) (λ k x. entry g m k k) (λ k. refl) (λ h k q e. omega arith) k q (λ i r e. omega arith)

  pub diagonal_filled : 5 * g.n ≤ length f → Diagonal g m (diagonal_in g m f g.n)
  unfolding diagonal_in
  diagonal_filled long = record {
    at = λ k K. filled_at (diagonal_in g m f) (λ k. 2 * g.n + k) (λ k x. entry g m k k) (λ k. refl) (λ h k q e. omega arith) g.n k K (omega arith);
  }

pub diagonal_steps : (g : Given) (m y : List ℕ) (top : Bool → Float) (f h : List Float) (i j : ℕ) → SheetReady g m y f → Diagonal g m f → i < g.n → j < g.n → h ≡ steps g m y top f i j
    → Diagonal g m h
diagonal_steps g m y top f h i j R D I J e = record {
  at = λ k K. ap (λ (z : List Float). get_or z (2 * g.n + k) nan) e ∙ steps_diagonal g m y top f (room g.nu g.n (length f) R.floats) i j I J k K ∙ D.at k K;
}

pub diagonal_started : (g : Given) (m y : List ℕ) (top : Bool → Float) (term : ℕ → Float) (f : List Float) → 5 * g.n ≤ length f → Diagonal g m f
    → Diagonal g m (opened_to g m y top (brought_to g m y top term f g.n) g.n)
diagonal_started g m y top term f long D = record {
  at = λ k K.
      opened_diagonal g m y top (brought_to g m y top term f g.n) (rw (length_brought g m y top term f g.n) (room g.nu g.n (length f) long)) g.n (omega arith) k K
      ∙ brought_other g m y top term f g.n (2 * g.n + k) (omega arith) ∙ D.at k K;
}

-- ---- every copy is a value of the format

pub fitting_steps : (g : Given) (m y : List ℕ) (top : Bool → Float) (f h : List Float) (i j : ℕ) → SheetReady g m y f → i < g.n → j < g.n → h ≡ steps g m y top f i j → Fitting g h
fitting_steps g m y top f h i j R I J e =
    let r = room g.nu g.n (length f) R.floats in
    rw e (record { ups = steps_up g m y top f r i j I J; downs = steps_down g m y top f r i j I J })

pub fitting_started : (g : Given) (m y : List ℕ) (top : Bool → Float) (p : Float) (f : List Float) → 5 * g.n ≤ length f → T (fits binary64 p) → Fitting g (opened g m y top (λ k. p) f)
fitting_started g m y top p f long held =
    let r = room g.nu g.n (length f) long in
    record { ups = start_up g m y top (λ k. p) f r (λ k K. held); downs = start_down g m y top (λ k. p) f r (λ k K. held) }

-- ---- F before the first pass

pub brought_is : (g : Given) (m y : List ℕ) (top : Bool → Float) (term : ℕ → Float) (l : List Float) (i : ℕ)
    → joined_in g m y (spread (λ k. signed_of (positive_in y k) (term k)) l g.n) i ≡ brought_to g m y top term l i
unfolding joined_in brought_to
brought_is g m y top term l zero = refl
brought_is g m y top term l (suc i) = rw (brought_is g m y top term l i)

-- by the calls of the code
pub started_is : (g : Given) (m y : List ℕ) (top : Bool → Float) (p : Float) (f f1 f2 f3 f4 : List Float) → f1 ≡ diagonal_in g m f g.n
    → f2 ≡ spread (λ k. signed_of (positive_in y k) p) f1 g.n → f3 ≡ joined_in g m y f2 g.n → f4 ≡ opened_to g m y top f3 g.n
    → f4 ≡ opened g m y top (λ k. p) (diagonal_in g m f g.n)
started_is g m y top p f f1 f2 f3 f4 h1 h2 h3 h4 =
    rw (h4, h3, h2, h1) (ap (λ (z : List Float). opened_to g m y top z g.n) (brought_is g m y top (λ k. p) (diagonal_in g m f g.n) g.n))

-- ---- the run

module _ (g : Given) (m y : List ℕ) (top : Bool → Float) where
  picks : (x : Bool) → x ≡ true → (a b : Course) → cond x a b ≡ a
  picks true h a b = refl
  picks false h a b = absurd (true≢false (sym h))

  pub go_more : (v : Course) (t : ℕ) (w : Course) → w ≡ goes_on g m y top v t → w.going ≡ true → (r : Course)
      → r ≡ passes g m y top w (choice_in g m y (read_in g.nu g.n w.floats)) → r ≡ goes_on g m y top v (suc t)
  unfolding goes_on
  go_more v t w e h r q = rw (← e) (q ∙ sym (picks w.going h _ w))

  left : (x : Bool) → x ≡ false → (a b : Course) → cond x a b ≡ b
  left true h a b = absurd (true≢false h)
  left false h a b = refl

  pub go_stays : (v : Course) (t b : ℕ) → t ≤ b → (w : Course) → w ≡ goes_on g m y top v t → w.going ≡ false → w ≡ goes_on g m y top v b
  unfolding goes_on
  go_stays v t zero l w e h = let q : t ≡ 0 = omega arith in e ∙ ap (goes_on g m y top v) q
  go_stays v t (suc b) l w e h = go (ℕ_discrete t (suc b)) (go_stays v t b)
    where
      go : Dec (t ≡ suc b) → (t ≤ b → (w : Course) → w ≡ goes_on g m y top v t → w.going ≡ false → w ≡ goes_on g m y top v b) → w ≡ goes_on g m y top v (suc b)
      go (yes q) r = e ∙ ap (goes_on g m y top v) q
      go (no q) r = let z = r (omega arith) w e h in rw (← z) (sym (left w.going h _ w))
