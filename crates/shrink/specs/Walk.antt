-- The shrink walk, over any state, any test of what is to be dropped and any exchange (the rule, section 'Shrinking').
use Rattle.std.specs.Prelude.{ℕ, zero, suc, Bool, true, false, cond, ◌&&◌, ltb, leb, Option}
use Rattle.std.specs.Option.{unwrap_or, is_none}

-- the active count, whether it was to fall below 0, and the state
pub record Walking (S : Type 0) : Type 0 where
  pub active : ℕ
  pub refused : Bool
  pub state : S

abbrev pub walking : {S : Type 0} → ℕ → Bool → S → Walking S
walking a r s = record { active = a; refused = r; state = s }

-- of what a walk gives: the count, or none where it was to fall below 0
abbrev pub walking_by : {S : Type 0} → Option ℕ → S → Walking S
walking_by w s = walking (unwrap_or w 0) (is_none w) s

-- the count falls from a while it is above i and what stands at it is to be dropped
unfoldable pub count_fallen : {S : Type 0} → (S → ℕ → Bool) → S → ℕ → ℕ → ℕ
count_fallen drops s i zero = zero
count_fallen drops s i (suc a) = cond (ltb i (suc a) && drops s (suc a)) (count_fallen drops s i a) (suc a)

-- where the count a is then still above i, positions i and a are exchanged
unfoldable pub exchanged : {S : Type 0} → (S → ℕ → ℕ → S) → S → ℕ → ℕ → Walking S
exchanged swap s i a = walking a false (cond (ltb i a) (swap s i a) s)

-- position i is to be dropped: the count falls by one, and at 0 that is refused
unfoldable pub dropped : {S : Type 0} → (S → ℕ → Bool) → (S → ℕ → ℕ → S) → S → ℕ → ℕ → Walking S
dropped drops swap s i zero = walking zero true s
dropped drops swap s i (suc a) = exchanged swap s i (count_fallen drops s i a)

-- position i: passed over once the walk is refused, and in a walk that ends at the current count where that isn't above i
unfoldable pub visited : {S : Type 0} → Bool → (S → ℕ → Bool) → (S → ℕ → ℕ → S) → ℕ → Walking S → Walking S
visited ends drops swap i w =
    cond w.refused w (cond (ends && leb w.active i) w (cond (drops w.state i) (dropped drops swap w.state i w.active) w))

-- over the first m positions, from the count a: m doesn't fall with the count
unfoldable pub walked : {S : Type 0} → Bool → (S → ℕ → Bool) → (S → ℕ → ℕ → S) → ℕ → S → ℕ → Walking S
walked ends drops swap a s zero = walking a false s
walked ends drops swap a s (suc i) = visited ends drops swap i (walked ends drops swap a s i)
