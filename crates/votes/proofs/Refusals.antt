-- The refusals: what the code's tests say, and what is known where nothing is refused. Assumes nothing.
use Prim.Native.Nat.{ℕ, ◌+◌, ◌*◌, ◌/◌, ◌≤◌, min}
use mathlib.Core.Bool.{Bool, true, false, ◌&&◌}
use mathlib.Core.List.{List}
use mathlib.Core.Logic.{◌⊎◌, inl, inr}
use mathlib.Core.Path.{◌≡◌, refl}
use native.Mathlib.Omega.{arith}
use borrow.Author.Tests.{leb-true, leb-false, eqb-true, ne_eqb}
use lib.Dec.{leb, eqb}
use lib.ListN.{length}
use Rattle.std.specs.Prelude.{⊤, Result, Ok, Err}
use Rattle.judge.specs.Judge.{first, need, and_then}
use Rattle.judge.proofs.First.{need_fine, and_then_fine, after_bad, Offends, first_bad}
use Rattle.votes.specs.declared.Refusal.{Refusal}
use Rattle.votes.specs.declared.Refusal.TheVariants.{Languages, Length, Counts}
use Rattle.rounding.proofs.Order.{both}
use Rattle.votes.specs.Votes.{Panel, pairs_of, pair_start}
use Rattle.votes.specs.Entry.{languages_good, eight_each, counts_good, votes_judged, Sized}

pub languages_within : (k : ℕ) → languages_good k ≡ true → (2 ≤ k) × (k ≤ 12)
languages_within k h = let p = both (leb 2 k) (leb k 12) h in (leb-true 2 k p.0, leb-true k 12 p.1)

-- a total that is capped above what the coefficients' list holds is refused as the total itself
pub capped_same : (c v all : ℕ) → (eqb c (8 * min all (c / 8 + 1)) && eqb v (8 * min all (c / 8 + 1))) ≡ (eqb c (8 * all) && eqb v (8 * all))
capped_same c v all = go (leb all (c / 8)) refl
  where
    go : (b : Bool) → leb all (c / 8) ≡ b → (eqb c (8 * min all (c / 8 + 1)) && eqb v (8 * min all (c / 8 + 1))) ≡ (eqb c (8 * all) && eqb v (8 * all))
    go true e = let h = leb-true all (c / 8) e in let m : min all (c / 8 + 1) ≡ all = omega arith in rw m
    go false e =
        let h = leb-false all (c / 8) e in
        let m : min all (c / 8 + 1) ≡ c / 8 + 1 = omega arith in
        rw (m, ne_eqb c (8 * (c / 8 + 1)) (λ q. omega arith), ne_eqb c (8 * all) (λ q. omega arith))

module _ (k : ℕ) (l : Panel) (votes : List ℕ) where
  abbrev listed : ℕ → Bool
  listed n = eight_each n l.held && eight_each n l.valued

  abbrev alike : ℕ → Result ⊤ Refusal
  alike n = first Counts (counts_good l.held l.valued) n 0

  abbrev whole : ℕ → ℕ → Bool
  whole n all = eight_each all l.coefficients && eight_each all l.values && eight_each n l.rhos && eight_each k votes

  -- counts that differ are what is refused, where nothing before them is
  pub judged_unlike : (n : ℕ) → n ≡ pairs_of k → languages_good k ≡ true → listed n ≡ true → (q : Refusal) → alike n ≡ Err q → votes_judged k l votes ≡ Err q
  unfolding votes_judged and_then
  judged_unlike n e a b q d = rw (a, ← e, b, d)

  pub fine_languages : votes_judged k l votes ≡ Ok tt → languages_good k ≡ true
  unfolding votes_judged
  fine_languages h = need_fine Languages (languages_good k) (and_then_fine (need Languages (languages_good k)) _ h).0

  pub judged_fine : votes_judged k l votes ≡ Ok tt → Sized k l × (length votes ≡ 8 * k)
  unfolding votes_judged
  judged_fine h =
      let n = pairs_of k in
      let all = pair_start l.held n in
      let p = and_then_fine (need Languages (languages_good k)) _ h in
      let q = and_then_fine (need Length (listed n)) _ p.1 in
      let r = and_then_fine (alike n) _ q.1 in
      let a = languages_within k (need_fine Languages (languages_good k) p.0) in
      let b = both (eight_each n l.held) (eight_each n l.valued) (need_fine Length (listed n) q.0) in
      let d = both (eight_each all l.coefficients && eight_each all l.values && eight_each n l.rhos) (eight_each k votes) (need_fine Length (whole n all) r.1) in
      let f = both (eight_each all l.coefficients && eight_each all l.values) (eight_each n l.rhos) d.0 in
      let g = both (eight_each all l.coefficients) (eight_each all l.values) f.0 in (
        record {
          some = a.0;
          most = a.1;
          held = eqb-true _ _ b.0;
          coefficients = eqb-true _ _ g.0;
          values = eqb-true _ _ g.1;
          rhos = eqb-true _ _ f.1;
        },
        eqb-true _ _ d.1,
      )

  -- ---- and where something is

  need_bad : (r : Refusal) (b : Bool) (q : Refusal) → need r b ≡ Err q → (b ≡ false) × (q ≡ r)
  need_bad r true q h = let z : ⊥ = cc in absurd z
  need_bad r false q h = (refl, cc)

  -- the languages, else a length or the first pair whose two counts differ
  pub judged_bad : (q : Refusal) → votes_judged k l votes ≡ Err q
      → ((q ≡ Languages) × (languages_good k ≡ false)) ⊎ ((languages_good k ≡ true) × ((q ≡ Length) ⊎ Offends Counts (counts_good l.held l.valued) (pairs_of k) 0 q))
  unfolding votes_judged
  judged_bad q h = elim (after_bad (need Languages (languages_good k)) _ q h) [
    | inl a ↦ let x = need_bad Languages (languages_good k) q a in inl (x.1, x.0)
    | inr a ↦
        let good = need_fine Languages (languages_good k) a.0 in
        elim (after_bad (need Length (listed (pairs_of k))) _ q a.1) [
          | inl b ↦ inr (good, inl (need_bad Length (listed (pairs_of k)) q b).1)
          | inr b ↦ elim (after_bad (alike (pairs_of k)) _ q b.1) [
            | inl c ↦ inr (good, inr (first_bad Counts (counts_good l.held l.valued) (pairs_of k) 0 q c))
            | inr c ↦ inr (good, inl (need_bad Length (whole (pairs_of k) (pair_start l.held (pairs_of k))) q c.1).1)
          ]
        ]
  ]
