-- The choice of a pair is the one of the rule's words (specs/Rule.antt), whoever holds the rises and whoever stands: `second_words`, `choice_pair`,
-- `choice_optimal`, `sum_is`. Assumes nothing.
use Prim.Native.Nat.{ℕ}
use mathlib.Core.Bool.{Bool, true, false, ◌&&◌, cond, true≢false}
use mathlib.Core.Logic.{◌⊎◌, inl, inr, ◌↔◌}
use mathlib.Core.Path.{◌≡◌, refl, sym, ap, ap₂, ◌∙◌}
use lib.Dec.{T}
use lib.Ieee.{Float, binary64, inf, add, lt}
use lib.Ieee.Fits.{and_l, and_r}
use Rattle.std.proofs.lemmas.Option.{none-some, same_Some}
use Rattle.std.specs.Prelude.{Option, Some, None, is_some}
use Rattle.alpha.specs.Weight.{zero}
use Rattle.extreme.specs.Best.{at_most, best}
use Rattle.extreme.specs.Rule.{LastLeast}
use Rattle.extreme.proofs.Rule.{Words, top_of, top_is}
use Rattle.extreme.proofs.Tests.{last_least, least_words}
use Rattle.extreme.specs.declared.Extreme.{Extreme}
use Rattle.state.specs.Lists.{Problem, State}
use Rattle.state.specs.Fields.{positive}
use Rattle.partner.specs.Rule as Rule
use Rattle.partner.specs.Rule.{Follows, Seconds, Pairs, NoSecond, Sum}
use Rattle.partner.specs.Second.{place_of, gap, follows, gain_of, paired, paired_with}
use Rattle.partner.specs.Sides.{may_fall, rise, fall}
use Rattle.partner.proofs.Apart.{apart}

both : (a b : Bool) → T a → T b → T (a && b)
both true b t u = u
both false b t u = t

pub at_place : (h : Option ℕ) → T (is_some h) → h ≡ Some (place_of h)
at_place (Some i) t = refl
at_place None t = absurd t

-- equal pairs are equal by parts
pub same_pair : (h k i j : ℕ) → ◌≡◌ {A = Option (ℕ × ℕ)} (Some (h, k)) (Some (i, j)) → (h ≡ i) × (k ≡ j)
same_pair h k i j q =
    let e = same_Some (h, k) (i, j) q in
    (ap (λ (p : ℕ × ℕ). p.0) e, ap (λ (p : ℕ × ℕ). p.1) e)

-- a pair is of the holder and the second that it was made of
pub paired_is : (h : Option ℕ) (k i j : ℕ) → paired h k ≡ Some (i, j) → (h ≡ Some i) × (k ≡ j)
paired_is (Some h) k i j q = let e = same_pair h k i j q in (ap Some e.0, e.1)
paired_is None k i j q = absurd (none-some (i, j) q)

-- the sum of an extreme that rises and one that falls is that of the words, and no other is
module _ (p : Problem) (s : State) {Rises Falls : ℕ → Type 0} {u d : Extreme} (r : Words (inf true) (rise p s) Rises u) (f : Words (inf true) (fall p s) Falls d) where
  pub sum_of : Sum p s Rises Falls (add binary64 u.value d.value)
  sum_of = record { up = u.value; down = d.value; rises = top_of r; falls = top_of f; sum = refl }

  pub sum_is : (x : Float) → Sum p s Rises Falls x → add binary64 u.value d.value ≡ x
  sum_is x w = ap₂ (add binary64) (top_is r w.up w.rises) (top_is f w.down w.falls) ∙ sym w.sum

module _ (stands : ℕ → Bool) (p : Problem) (s : State) (floor : Float) (a : ℕ) (lead : Bool → Extreme) (Rises : Bool → ℕ → Type 0)
    (words : (t : Bool) → Words (inf true) (rise p s) (Rises t) (lead t)) where
  abbrev F : ℕ → ℕ → Type 0
  F = Follows stands p s floor a Rises

  abbrev gain_at : ℕ → ℕ → Float
  gain_at = Rule.gain_at stands p s floor a Rises

  -- who is asked, and by what, in the definitions
  abbrev asked : ℕ → Bool
  asked j = stands j && follows p s lead j

  abbrev held : ℕ → Float
  held j = let e = lead (positive s j) in gain_of p s floor e.value (place_of e.holder) j

  abbrev pub found : Extreme
  found = best at_most (inf false) asked held a

  abbrev pub chosen_by : Bool → Option (ℕ × ℕ)
  chosen_by stop = cond stop None (paired_with (λ j. (lead (positive s j)).holder) found.holder)

  -- ---- who follows

  value_at : (i j : ℕ) → (lead (positive s j)).holder ≡ Some i → (lead (positive s j)).value ≡ rise p s i
  value_at i j = (words (positive s j)).value_is i

  follower : (j : ℕ) → T (asked j) → F (place_of (lead (positive s j)).holder) j
  follower j t =
      let e = lead (positive s j) in
      let behind = lt zero (gap p s e.value j) in
      let f = and_r (stands j) (follows p s lead j) t in
      let q = at_place e.holder (and_l (is_some e.holder) (may_fall p s j && behind) f) in
      let u = and_r (is_some e.holder) (may_fall p s j && behind) f in
      record {
        led = ((words (positive s j)).named (place_of e.holder)).0 q;
        falls = both (stands j) (may_fall p s j) (and_l (stands j) (follows p s lead j) t) (and_l (may_fall p s j) behind u);
        ahead = rw (value_at (place_of e.holder) j q) at (and_r (may_fall p s j) behind u);
      }

  led_at : (i j : ℕ) → F i j → (lead (positive s j)).holder ≡ Some i
  led_at i j f = ((words (positive s j)).named i).1 f.led

  following : (i j : ℕ) → F i j → T (asked j)
  following i j f =
      let e = lead (positive s j) in
      let q = led_at i j f in
      let behind = lt zero (gap p s e.value j) in
      both (stands j) (follows p s lead j) (and_l (stands j) (may_fall p s j) f.falls)
      (both (is_some e.holder) (may_fall p s j && behind) (rw q tt)
      (both (may_fall p s j) behind (and_r (stands j) (may_fall p s j) f.falls) (rw (value_at i j q) f.ahead)))

  same : (i j : ℕ) → F i j → held j ≡ gain_at i j
  same i j f = let q = led_at i j f in rw (value_at i j q, q)

  -- ---- the second

  found_words : Words (inf false) held (LastLeast asked held a) found
  found_words = least_words asked held a

  seconds : (i j : ℕ) → LastLeast asked held a j → F i j → Seconds stands p s floor a Rises i j
  seconds i j g f =
      record {
        inside = g.inside;
        after = f;
        number = rw (same i j f) at g.number;
        least = λ h k b m n. rw (same i j f, same h k m) at (g.most k b (following h k m) (rw (same h k m) n));
        last = λ h k b c m n. rw (same i j f, same h k m) at (g.last k b c (following h k m) (rw (same h k m) n));
      }

  least_of : (i j : ℕ) → Seconds stands p s floor a Rises i j → LastLeast asked held a j
  least_of i j g =
      let q = same i j g.after in
      let at : (k : ℕ) → T (asked k) → (held k ≡ gain_at (place_of (lead (positive s k)).holder) k) = λ k t. same (place_of (lead (positive s k)).holder) k (follower k t) in
      record {
        inside = g.inside;
        eligible = following i j g.after;
        number = rw q g.number;
        most = λ k b t n. rw (q, at k t) (g.least (place_of (lead (positive s k)).holder) k b (follower k t) (rw (at k t) at n));
        last = λ k b c t n. rw (q, at k t) (g.last (place_of (lead (positive s k)).holder) k b c (follower k t) (rw (at k t) at n));
      }

  -- the second that is found, with the holder of its label's lead, is the one of the words
  abbrev Taken : ℕ → ℕ → Type 0
  Taken i j = (found.holder ≡ Some j) × ((lead (positive s j)).holder ≡ Some i)

  pub second_words : (i j : ℕ) → Taken i j ↔ Seconds stands p s floor a Rises i j
  second_words i j = (
    λ w.
        let g = (found_words.named j).0 w.0 in
        let f = follower j g.eligible in
        seconds i j g (record { led = ((words (positive s j)).named i).0 w.1; falls = f.falls; ahead = rw (ap place_of w.1) at f.ahead }),
    λ g. ((found_words.named j).1 (least_of i j g), led_at i j g.after),
  )

  pub second_none : (found.holder ≡ None) ↔ NoSecond stands p s floor a Rises
  second_none = (
    λ q i j l f n. (last_least asked held a).nobody.0 q j l (following i j f) (rw (same i j f) n),
    λ z. (last_least asked held a).nobody.1 (λ j l t n. let f = follower j t in z (place_of (lead (positive s j)).holder) j l f (rw (same _ j f) at n)),
  )

  -- ---- the choice

  pairs : (i j : ℕ) → Seconds stands p s floor a Rises i j → Pairs stands p s floor a Rises i j
  pairs i j g = record { second = g; apart = apart p s i j g.after.ahead }

  -- a pair exactly where the rule doesn't stop and it is that of the words
  pub choice_pair : (stop : Bool) (i j : ℕ) → (chosen_by stop ≡ Some (i, j)) ↔ ((stop ≡ false) × Pairs stands p s floor a Rises i j)
  choice_pair true i j = (λ q. absurd (none-some (i, j) q), λ w. absurd (true≢false w.0))
  choice_pair false i j = (λ q. (refl, pairs i j ((second_words i j).0 (go found.holder refl q))), λ w. let z = (second_words i j).1 w.1.second in rw (z.0, z.1))
    where
      go : (h : Option ℕ) → found.holder ≡ h → paired_with (λ j. (lead (positive s j)).holder) h ≡ Some (i, j) → Taken i j
      go (Some k) e q = let w = paired_is (lead (positive s k)).holder k i j q in (rw w.1 at e, rw w.1 at w.0)
      go None e q = absurd (none-some (i, j) q)

  -- optimal exactly where the rule stops, or there is no second
  pub choice_optimal : (stop : Bool) → (chosen_by stop ≡ None) ↔ ((stop ≡ true) ⊎ NoSecond stands p s floor a Rises)
  choice_optimal true = (λ q. inl refl, λ w. refl)
  choice_optimal false = (λ q. inr (second_none.0 (go found.holder refl q)), λ w. elim w [ inl e ↦ absurd (true≢false (sym e)) | inr z ↦ rw (second_none.1 z) ])
    where
      go : (h : Option ℕ) → found.holder ≡ h → paired_with (λ j. (lead (positive s j)).holder) h ≡ None → h ≡ None
      go (Some k) e q =
          let f = follower k ((found_words.named k).0 e).eligible in
          absurd (none-some (place_of (lead (positive s k)).holder, k) (sym (rw (led_at _ k f) at q)))
      go None e q = refl
