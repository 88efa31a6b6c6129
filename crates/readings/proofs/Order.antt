-- Laws of the two readings, and where they agree. Assumes nothing.
use Prim.Native.Nat.{ℕ, zero, suc, ◌+◌, ◌*◌, ◌≤◌, ◌<◌}
use mathlib.Core.Bool.{true}
use mathlib.Core.List.{List}
use mathlib.Core.Logic.{◌≢◌, ◌↔◌}
use mathlib.Core.Path.{◌≡◌, refl, sym, ap, ◌∙◌}
use native.Mathlib.Decide.{ℕ_discrete}
use native.Mathlib.Omega.{arith}
use lib.Ieee.{Float, nan, inf}
use lib.ListN.{length, get_or, set, take, replicate, length-set, length-replicate, get_or-replicate}
use lib.Seq.{get_or-set_same, get_or-set_other, get_or-take, length-take-le, ext_get_or}
use Rattle.readings.specs.Order.{gathered, scattered, crate_reading, home_reading, sent_out, weight_in, NamesSamples, Perm}

-- no two places hold one sample
pub once : {n : ℕ} {order : List ℕ} → Perm n order → (k l : ℕ) → k < n → l < n → get_or order k 0 ≡ get_or order l 0 → k ≡ l
once p k l a b e = sym (p.only k a) ∙ ap p.place e ∙ p.only l b

module _ {A : Type 0} (order : List ℕ) (w : ℕ → A) (r : List A) where
  pub length_gathered : (m : ℕ) → length (gathered order w r m) ≡ length r
  unfolding gathered
  length_gathered zero = refl
  length_gathered (suc k) = simp length-set (length_gathered k)

  pub length_scattered : (m : ℕ) → length (scattered order w r m) ≡ length r
  unfolding scattered
  length_scattered zero = refl
  length_scattered (suc k) = simp length-set (length_scattered k)

module _ {A : Type 0} (d : A) (order : List ℕ) (w : ℕ → A) (r : List A) where
  pub gathered_after : (m k : ℕ) → m ≤ k → get_or (gathered order w r m) k d ≡ get_or r k d
  unfolding gathered
  gathered_after zero k h = refl
  gathered_after (suc m) k h =
      get_or-set_other (gathered order w r m) m k (w (get_or order m 0)) d (λ e. let z : ⊥ = omega arith in z) ∙ gathered_after m k (omega arith)

  pub gathered_at : (m k : ℕ) → m ≤ length r → k < m → get_or (gathered order w r m) k d ≡ w (get_or order k 0)
  unfolding gathered
  gathered_at zero k l h = let z : ⊥ = omega arith in absurd z
  gathered_at (suc m) k l h = go (gathered_at m k (omega arith)) (ℕ_discrete k m)
    where
      go : (k < m → get_or (gathered order w r m) k d ≡ w (get_or order k 0)) → Dec (k ≡ m)
          → get_or (set (gathered order w r m) m (w (get_or order m 0))) k d ≡ w (get_or order k 0)
      go before (yes e) = rw e (get_or-set_same (gathered order w r m) m (w (get_or order m 0)) d (rw (length_gathered order w r m) l))
      go before (no e) = get_or-set_other (gathered order w r m) m k (w (get_or order m 0)) d e ∙ before (omega arith)

  -- a place that no entry names stays as it was
  pub scattered_after : (m s : ℕ) → ((k : ℕ) → k < m → s ≢ get_or order k 0) → get_or (scattered order w r m) s d ≡ get_or r s d
  unfolding scattered
  scattered_after zero s h = refl
  scattered_after (suc m) s h =
      get_or-set_other (scattered order w r m) (get_or order m 0) s (w m) d (h m (omega arith))
      ∙ scattered_after m s (λ k c. h k (omega arith))

  pub scattered_at : (n : ℕ) → Perm n order → n ≤ length r → (m k : ℕ) → m ≤ n → k < m → get_or (scattered order w r m) (get_or order k 0) d ≡ w k
  unfolding scattered
  scattered_at n p l zero k g h = let z : ⊥ = omega arith in absurd z
  scattered_at n p l (suc m) k g h = go (scattered_at n p l m k (omega arith)) (ℕ_discrete k m)
    where
      go : (k < m → get_or (scattered order w r m) (get_or order k 0) d ≡ w k) → Dec (k ≡ m)
          → get_or (set (scattered order w r m) (get_or order m 0) (w m)) (get_or order k 0) d ≡ w k
      go before (yes e) =
          let b = p.within.below m (omega arith) in
          rw e (get_or-set_same (scattered order w r m) (get_or order m 0) (w m) d (rw (length_scattered order w r m) (omega arith)))
      go before (no e) =
          get_or-set_other (scattered order w r m) (get_or order m 0) (get_or order k 0) (w m) d (λ q. e (once p k m (omega arith) (omega arith) q))
          ∙ before (omega arith)

  -- sample s gets what stands at its place
  pub home_at : (n s : ℕ) → n ≤ length r → (p : Perm n order) → s < n → get_or (home_reading n order w r) s d ≡ w (p.place s)
  home_at n s l p h =
      ap (λ (t : ℕ). get_or (scattered order w r n) t d) (sym (p.there s h))
      ∙ scattered_at n p l n (p.place s) (omega arith) (p.inside s h)

  -- places from n on stay as they were
  pub home_after : (n s : ℕ) → NamesSamples n order → n ≤ s → get_or (home_reading n order w r) s d ≡ get_or r s d
  home_after n s v h = scattered_after n s (λ k c. let b = v.below k c in λ e. let z : ⊥ = omega arith in z)

  pub crate_at : (n i : ℕ) → n ≤ length r → i < n → get_or (crate_reading n order w r) i d ≡ w (get_or order i 0)
  crate_at n i l h = gathered_at n i l h

  pub crate_after : (n i : ℕ) → n ≤ i → get_or (crate_reading n order w r) i d ≡ get_or r i d
  crate_after n i h = gathered_after n i h

module _ {A : Type 0} (d : A) (n : ℕ) (order : List ℕ) (p : Perm n order) where
  -- out by the order and home again
  pub home_sent : (xs r r' : List A) → length xs ≡ n → length r ≡ n → n ≤ length r'
      → home_reading n order (λ k. get_or (sent_out n order (λ s. get_or xs s d) r') k d) r ≡ xs
  home_sent xs r r' x l l' = ext_get_or d (home_reading n order out r) xs (length_scattered order out r n ∙ l ∙ sym x) here
    where
      out : ℕ → A
      out k = get_or (sent_out n order (λ s. get_or xs s d) r') k d

      here : (s : ℕ) → s < length (home_reading n order out r) → get_or (home_reading n order out r) s d ≡ get_or xs s d
      here s h =
          let e = length_scattered order out r n in
          home_at d order out r n s (omega arith) p (omega arith)
          ∙ gathered_at d order (λ s. get_or xs s d) r' n (p.place s) l' (p.inside s (omega arith))
          ∙ ap (λ (t : ℕ). get_or xs t d) (p.there s (omega arith))

  -- home, then out
  pub sent_home : (ws r r' : List A) → length ws ≡ n → n ≤ length r → length r' ≡ n
      → sent_out n order (λ s. get_or (home_reading n order (λ k. get_or ws k d) r) s d) r' ≡ ws
  sent_home ws r r' x l l' = ext_get_or d (sent_out n order home r') ws (length_gathered order home r' n ∙ l' ∙ sym x) here
    where
      home : ℕ → A
      home s = get_or (home_reading n order (λ k. get_or ws k d) r) s d

      here : (k : ℕ) → k < length (sent_out n order home r') → get_or (sent_out n order home r') k d ≡ get_or ws k d
      here k h =
          let e = length_gathered order home r' n in
          gathered_at d order home r' n k (omega arith) (omega arith)
          ∙ scattered_at d order (λ k. get_or ws k d) r n p l n k (omega arith) (omega arith)

  -- the readings agree at sample i for weights that tell position order[i] from all others: so order[i] is where i stands
  told : (a b : A) → a ≢ b → (w : ℕ → A) (r r' : List A) → n ≤ length r → n ≤ length r' → (i : ℕ) → i < n → w (get_or order i 0) ≡ b
      → ((k : ℕ) → k < n → k ≢ get_or order i 0 → w k ≡ a)
      → take n (crate_reading n order w r) ≡ take n (home_reading n order w r')
      → get_or order (get_or order i 0) 0 ≡ i
  told a b ne w r r' l l' i h here other same = go (ℕ_discrete (p.place i) (get_or order i 0))
    where
      both : w (get_or order i 0) ≡ w (p.place i)
      both =
          sym (crate_at d order w r n i l h)
          ∙ sym (get_or-take n (crate_reading n order w r) i d h)
          ∙ ap (λ (t : List A). get_or t i d) same
          ∙ get_or-take n (home_reading n order w r') i d h
          ∙ home_at d order w r' n i l' p h

      go : Dec (p.place i ≡ get_or order i 0) → get_or order (get_or order i 0) 0 ≡ i
      go (yes e) = ap (λ (t : ℕ). get_or order t 0) (sym e) ∙ p.there i h
      go (no e) = absurd (ne (sym (other (p.place i) (p.inside i h) e) ∙ sym both ∙ here))

  -- of an order that is its own inverse the readings agree, whatever stands at the positions
  pub own_inverse : ((i : ℕ) → i < n → get_or order (get_or order i 0) 0 ≡ i) → (w : ℕ → A) (r r' : List A) → n ≤ length r → n ≤ length r'
      → take n (crate_reading n order w r) ≡ take n (home_reading n order w r')
  own_inverse inv w r r' l l' =
      ext_get_or d (take n (crate_reading n order w r)) (take n (home_reading n order w r')) (crate_long ∙ sym home_long) here
    where
      crate_long : length (take n (crate_reading n order w r)) ≡ n
      crate_long = length-take-le n (crate_reading n order w r) (rw (length_gathered order w r n) l)

      home_long : length (take n (home_reading n order w r')) ≡ n
      home_long = length-take-le n (home_reading n order w r') (rw (length_scattered order w r' n) l')

      here : (i : ℕ) → i < length (take n (crate_reading n order w r))
          → get_or (take n (crate_reading n order w r)) i d ≡ get_or (take n (home_reading n order w r')) i d
      here i h =
          let c : i < n = rw crate_long at h in
          get_or-take n (crate_reading n order w r) i d c
          ∙ crate_at d order w r n i l c
          ∙ ap w (sym (p.only (get_or order i 0) (p.within.below i c)) ∙ ap p.place (inv i c))
          ∙ sym (home_at d order w r' n i l' p c)
          ∙ sym (get_or-take n (home_reading n order w r') i d c)

  -- the first n places of the readings agree for every list of weights exactly when the order is its own inverse
  pub agree : (a b : A) → a ≢ b → (r r' : List A) → n ≤ length r → n ≤ length r'
      → ((ws : List A) → length ws ≡ n → take n (crate_reading n order (λ k. get_or ws k d) r) ≡ take n (home_reading n order (λ k. get_or ws k d) r'))
      ↔ ((i : ℕ) → i < n → get_or order (get_or order i 0) 0 ≡ i)
  agree a b ne r r' l l' = (forth, λ inv ws x. own_inverse inv (λ k. get_or ws k d) r r' l l')
    where
      forth : ((ws : List A) → length ws ≡ n → take n (crate_reading n order (λ k. get_or ws k d) r) ≡ take n (home_reading n order (λ k. get_or ws k d) r'))
          → (i : ℕ) → i < n → get_or order (get_or order i 0) 0 ≡ i
      forth same i h =
          let o = get_or order i 0 in
          let ws = set (replicate n a) o b in
          told a b ne (λ k. get_or ws k d) r r' l l' i h
          (get_or-set_same (replicate n a) o b d (rw (length-replicate n a) (p.within.below i h)))
          (λ k c e. get_or-set_other (replicate n a) o k b d e ∙ get_or-replicate n k a d c)
          (same ws (length-set (replicate n a) o b ∙ length-replicate n a))

-- .. and for the weights in every list of floats that a caller may lend
pub agree_floats : (n : ℕ) (order : List ℕ) → Perm n order → (r r' : List Float) → n ≤ length r → n ≤ length r'
    → ((f : List Float) → 7 * n ≤ length f → take n (crate_reading n order (weight_in n f) r) ≡ take n (home_reading n order (weight_in n f) r'))
    ↔ ((i : ℕ) → i < n → get_or order (get_or order i 0) 0 ≡ i)
agree_floats n order p r r' l l' = (forth, λ inv f x. own_inverse nan n order p inv (weight_in n f) r r' l l')
  where
    apart : nan ≢ inf true
    apart e = let z : ◌≡◌ {A = ℕ} 0 1 = cc in omega arith

    forth : ((f : List Float) → 7 * n ≤ length f → take n (crate_reading n order (weight_in n f) r) ≡ take n (home_reading n order (weight_in n f) r'))
        → (i : ℕ) → i < n → get_or order (get_or order i 0) 0 ≡ i
    forth same i h =
        let o = get_or order i 0 in
        let v = replicate (7 * n) nan in
        let f = set v (2 * n + o) (inf true) in
        let b = p.within.below i h in
        let x = length-replicate (7 * n) nan in
        told nan n order p nan (inf true) apart (weight_in n f) r r' l l' i h
        (get_or-set_same v (2 * n + o) (inf true) nan (omega arith))
        (λ k c e. get_or-set_other v (2 * n + o) (2 * n + k) (inf true) nan (λ q. e (omega arith)) ∙ get_or-replicate (7 * n) (2 * n + k) nan nan (omega arith))
        (same f (let y = length-set v (2 * n + o) (inf true) in omega arith))
