-- The two trainings start side by side. Assumes nothing.
use Prim.Native.Nat.{ℕ, zero, suc, ◌+◌, ◌*◌, ◌≤◌, ◌<◌}
use mathlib.Core.Bool.{Bool, true, false, ◌&&◌, beq, cond}
use mathlib.Core.List.{List}
use mathlib.Core.Path.{◌≡◌, refl, sym, ap, ap₂, ◌∙◌}
use native.Mathlib.Decide.{ℕ_discrete}
use native.Mathlib.Nat.{zero-add}
use native.Mathlib.Omega.{arith}
use lib.Ieee.{Float, nan, inf, binary64, fits, add, mul, eq}
use lib.Dec.{T}
use lib.Ieee.Fits.{neg-fits, add-fits, mul-fits}
use lib.ListN.{length, get_or}
use Rattle.alpha.specs.Weight as Weight
use Rattle.alpha.specs.Weight.{weight}
use Rattle.alpha.specs.declared.Alpha.{Alpha}
use Rattle.kernel.specs.Row.{signed_of}
use Rattle.partner.specs.Sides.{rises_of, falls_of, fall}
use Rattle.rho.specs.Rho.{positive_in}
use Rattle.trace.proofs.Started.{laid_at, diagonal_other, diagonal_own, joined_gradient}
use Rattle.rounding.proofs.Products.{mul_comm}
use Rattle.rows.proofs.Filled.{filled_length, filled_other, filled_at}
use Rattle.solver.specs.Run.{problem_of}
use Rattle.solver.specs.declared.Given.{Given}
use Rattle.start.specs.Start.{laid_to, diagonal_to, gathered_to, started}
use Rattle.state.specs.Fields.{alpha, linear}
use Rattle.state.specs.Lists.{Problem, State, state}
use Rattle.trace.proofs.Rests.{same_laid, same_diagonal, same_gathered, same_started}
use Rattle.orderless.specs.Plain.{plain}
use Rattle.orderless.specs.Run.{spread, raised_to, brought_to, opened_to, opened}
use Rattle.orderless.specs.Sheet.{up_field, sized, read_in, entry, sought}
use Rattle.orderless.specs.Step.{up_put, down_put, put_in, weight_to}
use Rattle.orderless.proofs.Copies.{Copied}
use Rattle.orderless.proofs.Plain.{Steady, steady_add, add_level}
use Rattle.orderless.proofs.Relation.{Lent, Mirrors}
use Rattle.orderless.proofs.Stepped.{signed_add, signed_mul, copy_put}
use Rattle.orderless.proofs.Laid.{length_put, put_weight, put_diagonal, put_down, put_up}

-- ---- the first places written, and added to

module _ (v : ℕ → Float) (l : List Float) where
  pub length_spread : (n : ℕ) → length (spread v l n) ≡ length l
  unfolding spread
  length_spread = filled_length (spread v l) (λ k. k) (λ k x. v k) (λ k. refl) (λ h k g e. omega arith)

  pub spread_other : (n k : ℕ) → n ≤ k → get_or (spread v l n) k nan ≡ get_or l k nan
  unfolding spread
  spread_other n k h = filled_other (spread v l) (λ k. k) (λ k x. v k) (λ k. refl) (λ h k g e. omega arith) n k (λ i r e. omega arith)

  pub spread_at : (n k : ℕ) → k < n → n ≤ length l → get_or (spread v l n) k nan ≡ v k
  unfolding spread
  spread_at n k h r = filled_at (spread v l) (λ k. k) (λ k x. v k) (λ k. refl) (λ h k g e. omega arith) n k h (omega arith)

  -- v says what is added
  pub length_raised_to : (n : ℕ) → length (raised_to v l n) ≡ length l
  unfolding raised_to
  length_raised_to = filled_length (raised_to v l) (λ k. k) (λ k x. add binary64 x (v k)) (λ k. refl) (λ h k g e. omega arith)

  pub raised_to_other : (n k : ℕ) → n ≤ k → get_or (raised_to v l n) k nan ≡ get_or l k nan
  unfolding raised_to
  raised_to_other n k h = filled_other (raised_to v l) (λ k. k) (λ k x. add binary64 x (v k)) (λ k. refl) (λ h k g e. omega arith) n k (λ i r e. omega arith)

  pub raised_to_at : (n k : ℕ) → k < n → n ≤ length l → get_or (raised_to v l n) k nan ≡ add binary64 (get_or l k nan) (v k)
  unfolding raised_to
  raised_to_at n k h r = filled_at (raised_to v l) (λ k. k) (λ k x. add binary64 x (v k)) (λ k. refl) (λ h k g e. omega arith) n k h (omega arith)

-- ---- what the samples bring to F

module _ (g : Given) (m y : List ℕ) (top : Bool → Float) (term : ℕ → Float) (l : List Float) where
  abbrev upto : ℕ → List Float
  upto i = brought_to g m y top term l i

  -- what sample i with the weight v brings to F of sample k
  abbrev share : ℕ → Float → ℕ → Float
  share i v k = mul binary64 (signed_of (positive_in y i) v) (entry g m i k)

  pub length_brought : (i : ℕ) → length (upto i) ≡ length l
  unfolding brought_to
  length_brought zero = length_spread (λ k. signed_of (positive_in y k) (term k)) l g.n
  length_brought (suc i) = go (get_or (upto i) (g.n + i) nan) (eq (get_or (upto i) (g.n + i) nan) Weight.zero) (length_brought i)
    where
      go : (v : Float) (x : Bool) → length (upto i) ≡ length l → length (cond x (upto i) (raised_to (share i v) (upto i) g.n)) ≡ length l
      go v true e = e
      go v false e = length_raised_to (share i v) (upto i) g.n ∙ e

  -- nothing behind F is touched
  pub brought_other : (i q : ℕ) → g.n ≤ q → get_or (upto i) q nan ≡ get_or l q nan
  unfolding brought_to
  brought_other zero q h = spread_other (λ k. signed_of (positive_in y k) (term k)) l g.n q h
  brought_other (suc i) q h = go (get_or (upto i) (g.n + i) nan) (eq (get_or (upto i) (g.n + i) nan) Weight.zero) (brought_other i q h)
    where
      go : (v : Float) (x : Bool) → get_or (upto i) q nan ≡ get_or l q nan → get_or (cond x (upto i) (raised_to (share i v) (upto i) g.n)) q nan ≡ get_or l q nan
      go v true e = e
      go v false e = raised_to_other (share i v) (upto i) g.n q h ∙ e

-- ---- the copies opened

up_first : (nu : Bool) (n : ℕ) → up_field nu n true ≡ 0
up_first true n = refl
up_first false n = refl

module _ (g : Given) (m y : List ℕ) (top : Bool → Float) (l : List Float) (long : sized g.nu g.n ≤ length l) where
  abbrev done : ℕ → List Float
  done c = opened_to g m y top l c

  pub length_opened : (c : ℕ) → c ≤ g.n → length (done c) ≡ length l
  unfolding opened_to
  length_opened zero h = refl
  length_opened (suc c) h = length_put g.n (done c) c (omega arith) (positive_in y c) _ _ g.nu ∙ length_opened c (omega arith)

  room : (c : ℕ) → c ≤ g.n → sized g.nu g.n ≤ length (done c)
  room c h = rw (length_opened c h) long

  pub opened_diagonal : (c : ℕ) → c ≤ g.n → (q : ℕ) → q < g.n → get_or (done c) (2 * g.n + q) nan ≡ get_or l (2 * g.n + q) nan
  unfolding opened_to
  opened_diagonal zero h q Q = refl
  opened_diagonal (suc c) h q Q =
      put_diagonal g.n (done c) c (omega arith) (positive_in y c) _ _ g.nu (room c (omega arith)) q Q ∙ opened_diagonal c (omega arith) q Q

  opened_weight : (c : ℕ) → c ≤ g.n → (q : ℕ) → q < g.n → get_or (done c) (g.n + q) nan ≡ get_or l (g.n + q) nan
  unfolding opened_to
  opened_weight zero h q Q = refl
  opened_weight (suc c) h q Q = go (ℕ_discrete q c) (opened_weight c (omega arith) q Q)
    where
      w : Alpha
      w = weight_to g m y top c (get_or (done c) (g.n + c) nan)

      go : Dec (q ≡ c) → get_or (done c) (g.n + q) nan ≡ get_or l (g.n + q) nan
          → get_or (put_in g.nu g.n (done c) c (positive_in y c) w (get_or (done c) c nan)) (g.n + q) nan ≡ get_or l (g.n + q) nan
      go (yes e) r = put_weight g.n (done c) c (omega arith) (positive_in y c) w _ g.nu (room c (omega arith)) q Q (yes e) ∙ ap (λ (z : ℕ). get_or (done c) (g.n + z) nan) (sym e) ∙ r
      go (no e) r = put_weight g.n (done c) c (omega arith) (positive_in y c) w _ g.nu (room c (omega arith)) q Q (no e) ∙ r

  -- F isn't touched before its turn
  opened_later : (c : ℕ) → c ≤ g.n → (q : ℕ) → q < g.n → c ≤ q → get_or (done c) q nan ≡ get_or l q nan
  unfolding opened_to
  opened_later zero h q Q r = refl
  opened_later (suc c) h q Q r =
      (rw (up_first g.nu g.n, zero-add) at
      (put_up g.n (done c) c (omega arith) (positive_in y c) (weight_to g m y top c (get_or (done c) (g.n + c) nan)) (get_or (done c) c nan) g.nu (room c (omega arith)) true q Q (no (λ e. omega arith))))
      ∙ opened_later c (omega arith) q Q (omega arith)

  -- at the turn of c: its weight and its F are as lent
  turn : (c : ℕ) → c < g.n
      → put_in g.nu g.n (done c) c (positive_in y c) (weight_to g m y top c (get_or (done c) (g.n + c) nan)) (get_or (done c) c nan)
      ≡ put_in g.nu g.n (done c) c (positive_in y c) (weight_to g m y top c (get_or l (g.n + c) nan)) (get_or l c nan)
  turn c C = ap₂ (λ (x z : Float). put_in g.nu g.n (done c) c (positive_in y c) (weight_to g m y top c x) z) (opened_weight c (omega arith) c C) (opened_later c (omega arith) c C (omega arith))

  pub opened_down : (c : ℕ) → c ≤ g.n → (q : ℕ) → q < c → get_or (done c) (3 * g.n + q) nan ≡ down_put (positive_in y q) (weight_to g m y top q (get_or l (g.n + q) nan)) (get_or l q nan)
  unfolding opened_to
  opened_down zero h q r = let z : ⊥ = omega arith in absurd z
  opened_down (suc c) h q r = ap (λ (f : List Float). get_or f (3 * g.n + q) nan) (turn c (omega arith)) ∙ go (ℕ_discrete q c) (opened_down c (omega arith) q)
    where
      w : Alpha
      w = weight_to g m y top c (get_or l (g.n + c) nan)

      go : Dec (q ≡ c) → (q < c → get_or (done c) (3 * g.n + q) nan ≡ down_put (positive_in y q) (weight_to g m y top q (get_or l (g.n + q) nan)) (get_or l q nan))
          → get_or (put_in g.nu g.n (done c) c (positive_in y c) w (get_or l c nan)) (3 * g.n + q) nan ≡ down_put (positive_in y q) (weight_to g m y top q (get_or l (g.n + q) nan)) (get_or l q nan)
      go (yes e) s = put_down g.n (done c) c (omega arith) (positive_in y c) w _ g.nu (room c (omega arith)) q (omega arith) (yes e) ∙ rw e
      go (no e) s = put_down g.n (done c) c (omega arith) (positive_in y c) w _ g.nu (room c (omega arith)) q (omega arith) (no e) ∙ s (omega arith)

  pub opened_up : (t : Bool) (c : ℕ) → c ≤ g.n → (q : ℕ) → q < c
      → get_or (done c) (up_field g.nu g.n t + q) nan ≡ up_put g.nu t (positive_in y q) (weight_to g m y top q (get_or l (g.n + q) nan)) (get_or l q nan)
  unfolding opened_to
  opened_up t zero h q r = let z : ⊥ = omega arith in absurd z
  opened_up t (suc c) h q r = ap (λ (f : List Float). get_or f (up_field g.nu g.n t + q) nan) (turn c (omega arith)) ∙ go (ℕ_discrete q c) (opened_up t c (omega arith) q)
    where
      w : Alpha
      w = weight_to g m y top c (get_or l (g.n + c) nan)

      go : Dec (q ≡ c)
          → (q < c → get_or (done c) (up_field g.nu g.n t + q) nan ≡ up_put g.nu t (positive_in y q) (weight_to g m y top q (get_or l (g.n + q) nan)) (get_or l q nan))
          → get_or (put_in g.nu g.n (done c) c (positive_in y c) w (get_or l c nan)) (up_field g.nu g.n t + q) nan
          ≡ up_put g.nu t (positive_in y q) (weight_to g m y top q (get_or l (g.n + q) nan)) (get_or l q nan)
      go (yes e) s = put_up g.n (done c) c (omega arith) (positive_in y c) w _ g.nu (room c (omega arith)) t q (omega arith) (yes e) ∙ rw e
      go (no e) s = put_up g.n (done c) c (omega arith) (positive_in y c) w _ g.nu (room c (omega arith)) t q (omega arith) (no e) ∙ s (omega arith)

pub signed_fits : (pos : Bool) (x : Float) → T (fits binary64 x) → T (fits binary64 (signed_of pos x))
signed_fits true x h = h
signed_fits false x h = neg-fits binary64 x h

pub one_field : (nu : Bool) (n x : ℕ) → sized nu n ≤ x → n ≤ x
one_field true n x h = omega arith
one_field false n x h = omega arith

module _ (g : Given) (m u y : List ℕ) (top : Bool → Float) (b : List Float) (C : Lent g m u y top b) (term : ℕ → Float) (f l : List Float) where
  abbrev p : Problem
  p = problem_of g m

  abbrev s : State
  s = state f u y

  -- what both are lent
  pub record Both : Type 0 where
    pub weights : (k : ℕ) → k < g.n → (alpha p s k).value ≡ get_or l (g.n + k) nan
    pub uppers : (k : ℕ) → k < g.n → (alpha p s k).upper ≡ top (positive_in y k)
    pub terms : (k : ℕ) → k < g.n → linear p s k ≡ term k
    pub steady : (k : ℕ) → k < g.n → Steady (term k)
    pub square : g.side ≡ g.n
    pub long : 7 * g.n ≤ length f
    pub room : sized g.nu g.n ≤ length l

  module _ (L : Both) where
    -- laid out, with the diagonal
    abbrev z : State
    z = state (diagonal_to g.n g.side m (laid_to g.n f g.n) g.side) u y

    long_z : 7 * g.n ≤ length z.floats
    long_z = rw ((same_diagonal p (laid_to g.n f g.n) g.side).long, (same_laid p (5 * g.n) f g.n (omega arith)).long) L.long

    abbrev at01 : ℕ → ℕ → Float
    at01 i k = get_or (gathered_to p b z i) k nan

    abbrev at10 : ℕ → ℕ → Float
    at10 i k = get_or (brought_to g m y top term l i) k nan

    value_is : (i : ℕ) → i < g.n → get_or (gathered_to p b z i) (2 * g.n + i) nan ≡ get_or l (g.n + i) nan
    value_is i I =
        (same_gathered p (5 * g.n) b z i).at (2 * g.n + i) (omega arith) (omega arith)
        ∙ (same_diagonal p (laid_to g.n f g.n) g.side).at (2 * g.n + i) (omega arith) (omega arith)
        ∙ (same_laid p (5 * g.n) f g.n (omega arith)).at (2 * g.n + i) (omega arith) (omega arith)
        ∙ L.weights i I

    roomy : g.n ≤ length l
    roomy = one_field g.nu g.n (length l) L.room

    -- what sample i with the weight v brings to F of sample k
    abbrev brings : ℕ → Float → ℕ → Float
    brings i v k = mul binary64 (signed_of (positive_in y i) v) (entry g m i k)

    abbrev sofar : ℕ → List Float
    sofar i = brought_to g m y top term l i

    -- the rule's gradient after the first i
    abbrev term01 : ℕ → ℕ → Float
    term01 i k = mul binary64 (get_or l (g.n + i) nan) (signed_of (beq (positive_in y i) (positive_in y k)) (entry g m i k))

    next01 : (i k : ℕ) → i < g.n → k < g.n → at01 (suc i) k ≡ cond (eq (get_or l (g.n + i) nan) Weight.zero) (at01 i k) (add binary64 (at01 i k) (term01 i k))
    unfolding gathered_to
    next01 i k I K =
        let h = gathered_to p b z i in
        joined_gradient p b (state h u y) i (alpha p (state h u y) i) k K (rw (same_gathered p (5 * g.n) b z i).long long_z)
        ∙ rw (value_is i I, C.rows i k I K)

    first01 : (k : ℕ) → k < g.n → at01 0 k ≡ term k
    unfolding gathered_to
    first01 k K = diagonal_other p (laid_to g.n f g.n) g.side k (omega arith) ∙ laid_at p f g.n k K (omega arith) L.long ∙ L.terms k K

    steady_at : (i k : ℕ) → i ≤ g.n → k < g.n → Steady (at01 i k)
    steady_at zero k I K = rw (first01 k K) (L.steady k K)
    steady_at (suc i) k I K = rw (next01 i k (omega arith) K) (go (eq (get_or l (g.n + i) nan) Weight.zero) (steady_at i k (omega arith) K))
      where
        go : (x : Bool) → Steady (at01 i k) → Steady (cond x (at01 i k) (add binary64 (at01 i k) (term01 i k)))
        go true h = h
        go false h = steady_add (at01 i k) (term01 i k) h (mul-fits binary64 _ _)

    -- F is the label times it
    term_is : (i k : ℕ) → signed_of (positive_in y k) (term01 i k) ≡ mul binary64 (signed_of (positive_in y i) (get_or l (g.n + i) nan)) (entry g m i k)
    term_is i k =
        ap (signed_of (positive_in y k)) (mul_comm binary64 (get_or l (g.n + i) nan) _) ∙ signed_mul (positive_in y i) (positive_in y k) (entry g m i k) (get_or l (g.n + i) nan)
        ∙ mul_comm binary64 (entry g m i k) _

    level_at : (i k : ℕ) → i ≤ g.n → k < g.n → plain (at10 i k) ≡ plain (signed_of (positive_in y k) (at01 i k))
    unfolding brought_to
    level_at zero k I K = ap plain (spread_at (λ k. signed_of (positive_in y k) (term k)) l g.n k K roomy) ∙ ap (λ (x : Float). plain (signed_of (positive_in y k) x)) (sym (first01 k K))
    level_at (suc i) k I K =
        rw (next01 i k (omega arith) K)
        (go (get_or (sofar i) (g.n + i) nan) (brought_other g m y top term l i (g.n + i) (omega arith)) (level_at i k (omega arith) K))
      where
        both : (x : Bool) → plain (at10 i k) ≡ plain (signed_of (positive_in y k) (at01 i k))
            → plain (get_or (cond x (sofar i) (raised_to (brings i (get_or l (g.n + i) nan)) (sofar i) g.n)) k nan)
            ≡ plain (signed_of (positive_in y k) (cond x (at01 i k) (add binary64 (at01 i k) (term01 i k))))
        both true e = e
        both false e =
            ap plain (raised_to_at (brings i (get_or l (g.n + i) nan)) (sofar i) g.n k K (rw (length_brought g m y top term l i) roomy))
            ∙ add_level _ _ _ _ e (ap plain (sym (term_is i k))) ∙ sym (signed_add (positive_in y k) (at01 i k) (term01 i k))

        go : (v : Float) → v ≡ get_or l (g.n + i) nan → plain (at10 i k) ≡ plain (signed_of (positive_in y k) (at01 i k))
            → plain (get_or (cond (eq v Weight.zero) (sofar i) (raised_to (brings i v) (sofar i) g.n)) k nan)
            ≡ plain (signed_of (positive_in y k) (cond (eq (get_or l (g.n + i) nan) Weight.zero) (at01 i k) (add binary64 (at01 i k) (term01 i k))))
        go v q e = rw q (both (eq (get_or l (g.n + i) nan) Weight.zero) e)

    fits_at : (i k : ℕ) → i ≤ g.n → k < g.n → T (fits binary64 (at10 i k))
    unfolding brought_to
    fits_at zero k I K = rw (spread_at (λ k. signed_of (positive_in y k) (term k)) l g.n k K roomy) (signed_fits (positive_in y k) (term k) (L.steady k K).fit)
    fits_at (suc i) k I K = go (get_or (sofar i) (g.n + i) nan) (eq (get_or (sofar i) (g.n + i) nan) Weight.zero) (fits_at i k (omega arith) K)
      where
        go : (v : Float) (x : Bool) → T (fits binary64 (at10 i k)) → T (fits binary64 (get_or (cond x (sofar i) (raised_to (brings i v) (sofar i) g.n)) k nan))
        go v true h = h
        go v false h = rw (raised_to_at (brings i v) (sofar i) g.n k K (rw (length_brought g m y top term l i) roomy)) (add-fits binary64 (at10 i k) (brings i v k))

    -- ---- the whole

    abbrev f1 : List Float
    f1 = started p b s

    -- F of sample k, and its weight
    abbrev begun : ℕ → Float
    begun k = get_or (sofar g.n) k nan

    abbrev heavy : ℕ → Alpha
    heavy k = weight_to g m y top k (get_or (sofar g.n) (g.n + k) nan)

    fall_begun : (k : ℕ) → k < g.n → plain (begun k) ≡ plain (fall p (state f1 u y) k)
    unfolding started
    fall_begun k K = level_at g.n k (omega arith) K

    alpha_begun : (k : ℕ) → k < g.n → alpha p (state f1 u y) k ≡ heavy k
    alpha_begun k K =
        ap₂ weight ((same_started p b s).at (2 * g.n + k) (omega arith) (omega arith) ∙ L.weights k K ∙ sym (brought_other g m y top term l g.n (g.n + k) (omega arith)))
        ((same_started p b s).at (3 * g.n + k) (omega arith) (omega arith) ∙ L.uppers k K)

    diagonal_begun : (k : ℕ) → k < g.n → get_or f1 (5 * g.n + k) nan ≡ entry g m k k
    unfolding started
    diagonal_begun k K =
        (same_gathered p (7 * g.n) b z g.n).at (5 * g.n + k) (omega arith) (omega arith)
        ∙ diagonal_own p (laid_to g.n f g.n) g.side k (omega (arith, L.square)) (rw (same_laid p (5 * g.n) f g.n (omega arith)).long (omega (arith, L.square, L.long)))

    -- may says whether sample k with a weight is open
    open_copied : (may : ℕ → Alpha → Bool) (t : Bool) (k : ℕ) → k < g.n → (v : Float) → v ≡ cond (may k (heavy k)) (begun k) (inf t)
        → Copied (may k (alpha p (state f1 u y) k)) (inf t) (fall p (state f1 u y) k) v
    open_copied may t k K v e = rw (e, alpha_begun k K) (copy_put (may k (heavy k)) t _ (begun k) (fits_at g.n k (omega arith) K) (fall_begun k K))

    long_brought : sized g.nu g.n ≤ length (sofar g.n)
    long_brought = rw (length_brought g m y top term l g.n) L.room

    abbrev l1 : List Float
    l1 = opened g m y top term l

    abbrev may_up : Bool → ℕ → Alpha → Bool
    may_up t k w = sought g.nu t (positive_in y k) && rises_of (positive_in y k) w

    abbrev may_down : ℕ → Alpha → Bool
    may_down k w = falls_of (positive_in y k) w

    pub start_mirrors : Mirrors g m u y top term f1 (read_in g.nu g.n l1)
    start_mirrors = record {
      ups = λ t k K. open_copied (may_up t) false k K _ (opened_up g m y top (sofar g.n) long_brought t g.n (omega arith) k K);
      downs = λ k K. open_copied may_down true k K _ (opened_down g m y top (sofar g.n) long_brought g.n (omega arith) k K);
      weights = λ k K. ap (λ (w : Alpha). w.value) (alpha_begun k K) ∙ sym (opened_weight g m y top (sofar g.n) long_brought g.n (omega arith) k K);
      uppers = λ k K. ap (λ (w : Alpha). w.upper) (alpha_begun k K);
      steady = λ k K. unfold started in steady_at g.n k (omega arith) K;
      diagonals = diagonal_begun;
      terms = λ k K. (same_started p b s).at (4 * g.n + k) (omega arith) (omega arith) ∙ L.terms k K;
      long = rw (same_started p b s).long L.long;
    }

    pub start_long : sized g.nu g.n ≤ length l1
    start_long = rw (length_opened g m y top (sofar g.n) long_brought g.n (omega arith)) long_brought
