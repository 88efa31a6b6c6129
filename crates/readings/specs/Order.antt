-- The order gives for each position its sample; two readings of what stands at the positions (the rule, section 'Two readings').
use Rattle.std.specs.Prelude.{ℕ, zero, suc, ◌+◌, ◌*◌, ◌≤◌, ◌<◌, List, ◌≡◌, Float, length, get_or, set}
use Rattle.std.specs.Float.{nan}

-- place k of the result gets what stands at position order[k]
unfoldable pub gathered : {A : Type 0} → List ℕ → (ℕ → A) → List A → ℕ → List A
gathered order w r zero = r
gathered order w r (suc k) = set (gathered order w r k) k (w (get_or order k 0))

-- place order[k] gets what stands at position k
unfoldable pub scattered : {A : Type 0} → List ℕ → (ℕ → A) → List A → ℕ → List A
scattered order w r zero = r
scattered order w r (suc k) = set (scattered order w r k) (get_or order k 0) (w k)

-- n samples, the order, what stands at each position, the result list before
abbrev pub crate_reading : {A : Type 0} → ℕ → List ℕ → (ℕ → A) → List A → List A
crate_reading n order w r = gathered order w r n

abbrev pub home_reading : {A : Type 0} → ℕ → List ℕ → (ℕ → A) → List A → List A
home_reading n order w r = scattered order w r n

-- a list out by the order: position k gets what stands at sample order[k]
abbrev pub sent_out : {A : Type 0} → ℕ → List ℕ → (ℕ → A) → List A → List A
sent_out n order x r = gathered order x r n

-- the weight at position k of the lent floats
abbrev pub weight_in : ℕ → List Float → ℕ → Float
weight_in n f k = get_or f (2 * n + k) nan

-- the first n entries are numbers below n
pub record NamesSamples (n : ℕ) (order : List ℕ) : Type 0 where
  pub long : n ≤ length order
  pub below : (k : ℕ) → k < n → get_or order k 0 < n

-- .. each of them once: sample s stands at place s
pub record Perm (n : ℕ) (order : List ℕ) : Type 0 where
  pub within : NamesSamples n order
  pub place : ℕ → ℕ
  pub inside : (s : ℕ) → s < n → place s < n
  pub there : (s : ℕ) → s < n → get_or order (place s) 0 ≡ s
  pub only : (k : ℕ) → k < n → place (get_or order k 0) ≡ k
