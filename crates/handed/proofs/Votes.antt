-- What `altuliscia_votes` answers and leaves, and the promises of the votes, of the bytes that it wrote. Assumes nothing.
use Prim.Native.Nat.{ℕ, zero, suc, ◌+◌, ◌-◌, ◌*◌, ◌^◌, ◌≤◌, ◌<◌}
use mathlib.Core.Bool.{Bool, true, false, cond, true≢false}
use mathlib.Core.List.{List, [], ◌∷◌}
use mathlib.Core.Logic.{◌⊎◌, inl, inr}
use mathlib.Core.Path.{◌≡◌, refl, sym, ap, ◌∙◌}
use native.Mathlib.Nat.{mod-eq_of_lt}
use native.Mathlib.Omega.{arith}
use borrow.Author.Tests.{ltb-true, ltb-false, leb-true, le-ltb, eqb-true, eqb-false}
use lib.Dec.{ltb, leb}
use lib.Ieee.{nan}
use lib.ListN.{length, get_or}
use Rattle.altuliscia.specs.Functions.{VotesHanded, votes_handed, votes_told, votes_host}
use Rattle.std.specs.Prelude.{⊤, Result, Ok, Err}
use Rattle.hosted.specs.Hosted.{words_to}
use Rattle.judge.proofs.First.{Offends}
use Rattle.rounding.proofs.Order.{both}
use Rattle.promises.specs.Leaves.{Beyond}
use Rattle.promises.proofs.Beyond.{beyond_refl}
use Rattle.votes.specs.declared.Refusal.{Refusal}
use Rattle.votes.specs.declared.Refusal.TheVariants.{Languages, Length, Counts}
use Rattle.votes.specs.Refusals.{votes_number, votes_index}
use Rattle.votes.specs.Votes.{Panel, pairs_of, sides_of, word_in, float_in, pair_sum, votes_for, total_to, winner_to, Wins}
use Rattle.votes.specs.Entry.{languages_good, counts_good, votes_judged, Sized, votes_laid, voted_by, voted_on, election_told}
use Rattle.votes.proofs.Laws.{votes_total, votes_most, nan_votes, winner_below, winner_wins}
use Rattle.votes.proofs.Pairs.{sides_ordered, pairs_few}
use Rattle.votes.proofs.Refusals.{judged_fine, fine_languages, judged_bad}
use Rattle.handed.specs.Elects.{GivesVotes, HandsVotes, FirstUnlike}
use Rattle.handed.proofs.Stored.{word_at, words_beyond, vote_at, votes_long}

-- ---- the answer's three words

words : Result ℕ Refusal → List ℕ
words (Ok w) = 0 ∷ 0 ∷ w ∷ []
words (Err q) = votes_number q ∷ votes_index q ∷ 0 ∷ []

told_words : (e : Result ℕ Refusal) (an : List ℕ) → election_told e an ≡ words_to (words e) an 3
unfolding election_told words_to words
told_words (Ok w) an = refl
told_words (Err q) an = refl

told_word : (e : Result ℕ Refusal) (an : List ℕ) (s x : ℕ) → 24 ≤ length an → s < 3 → get_or (words e) s 0 ≡ x → x < 256 ^ 8 → word_in (election_told e an) s ≡ x
told_word e an s x long h e' few = rw (told_words e an) (word_at (words e) an 3 s long h ∙ rw e' (mod-eq_of_lt few))

-- the same votes total, and win, alike
total_same : (v w : ℕ → ℕ) (k : ℕ) → ((x : ℕ) → x < k → w x ≡ v x) → total_to w k ≡ total_to v k
unfolding total_to
total_same v w zero h = refl
total_same v w (suc k) h = rw (total_same v w k (λ x l. h x (omega arith)), h k (omega arith))

wins_same : (v w : ℕ → ℕ) (k n : ℕ) → ((x : ℕ) → x < k → w x ≡ v x) → Wins v k n → Wins w k n
wins_same v w k n h s =
    let below = s.below in
    record {
      below = below;
      most = λ x l. rw (h x l, h n below) (s.most x l);
      first = λ x l. rw (h x (omega arith), h n below) (s.first x l);
    }

module _ (k : ℕ) (l : Panel) (v an : List ℕ) where
  -- ---- where it answers 0: nothing is refused, and there is room for the answer

  pub record Elected (o : VotesHanded) : Type 0 where
    pub fine : votes_judged k l v ≡ Ok tt
    pub room : 24 ≤ length an
    pub is : o ≡ votes_handed 0 (votes_laid (votes_for k l) v k) (election_told (Ok (winner_to (votes_for k l) k + 1)) an)

  some_number : (q : Refusal) → (1 ≤ votes_number q) × (votes_number q ≤ 2)
  some_number Languages = (omega arith, omega arith)
  some_number Length = (omega arith, omega arith)
  some_number (Counts p) = (omega arith, omega arith)

  short_number : (b : Bool) → ◌≡◌ {A = ℕ} (cond b 2 1) 0 → ⊥
  short_number true h = omega arith
  short_number false h = omega arith

  pub votes_called : (votes_host k l v an).code ≡ 0 → Elected (votes_host k l v an)
  unfolding votes_host voted_on voted_by
  votes_called = go (ltb (length an) 24) refl (votes_judged k l v) refl
    where
      short : VotesHanded
      short = votes_handed (cond (languages_good k) 2 1) v an

      go : (b : Bool) → ltb (length an) 24 ≡ b → (j : Result ⊤ Refusal) → votes_judged k l v ≡ j → (cond b short (votes_told (voted_by j k l v) an)).code ≡ 0
          → Elected (cond b short (votes_told (voted_by j k l v) an))
      go true e j f z = absurd (short_number (languages_good k) z)
      go false e (Ok x) f z = record { fine = f; room = ltb-false (length an) 24 e; is = refl }
      go false e (Err q) f z = let s = some_number q in absurd (omega arith)

  -- what that tells: from 2 to 12 languages, and a list of 8 bytes for each
  sized : {o : VotesHanded} → Elected o → Sized k l × (length v ≡ 8 * k)
  sized e = judged_fine k l v e.fine

  vote_small : {o : VotesHanded} → Elected o → (x : ℕ) → x < k → votes_for k l x < 256 ^ 8
  vote_small e x h = let s = sized e in omega (arith, votes_most k l x s.0.most h, s.0.most)

  pub votes_gives : (votes_host k l v an).code ≡ 0 → GivesVotes k l (votes_host k l v an)
  unfolding words
  votes_gives z =
      let e = votes_called z in
      let s = sized e in
      let w = winner_below (votes_for k l) k (omega (arith, s.0.some)) in
      rw e.is (record {
        votes = λ x h. vote_at (votes_for k l) v k x (omega (arith, s.1)) h ∙ mod-eq_of_lt (vote_small e x h);
        winner = told_word (Ok (winner_to (votes_for k l) k + 1)) an 2 _ e.room (omega arith) refl (omega (arith, w, s.0.most));
      })

  -- ---- where it answers 0, of the words that it wrote

  -- the votes total the number of pairs
  pub votes_called_total : (votes_host k l v an).code ≡ 0 → total_to (word_in (votes_host k l v an).votes) k ≡ pairs_of k
  votes_called_total z = total_same (votes_for k l) _ k (votes_gives z).votes ∙ votes_total k l (sized (votes_called z)).0.most

  -- no language has more than one for each other
  pub votes_called_most : (votes_host k l v an).code ≡ 0 → (x : ℕ) → x < k → word_in (votes_host k l v an).votes x ≤ k - 1
  votes_called_most z x h = rw ((votes_gives z).votes x h) (votes_most k l x (sized (votes_called z)).0.most h)

  -- the answer's winner, counted from 1, has as many as each and more than each before it
  pub votes_called_winner : (votes_host k l v an).code ≡ 0
      → (w : ℕ) × (word_in (votes_host k l v an).answer 2 ≡ w + 1) × Wins (word_in (votes_host k l v an).votes) k w
  votes_called_winner z =
      let g = votes_gives z in
      let s = sized (votes_called z) in
      (winner_to (votes_for k l) k, g.winner, wins_same (votes_for k l) _ k _ g.votes (winner_wins (votes_for k l) k (omega (arith, s.0.some))))

  -- a pair whose sum is NaN, or its rho: its second has a vote, and its first one less than it might
  pub votes_called_nan : (votes_host k l v an).code ≡ 0 → (p : ℕ) → p < pairs_of k → (pair_sum l p ≡ nan) ⊎ (float_in l.rhos p ≡ nan)
      → (word_in (votes_host k l v an).votes (sides_of k p).first ≤ k - 2) × (1 ≤ word_in (votes_host k l v an).votes (sides_of k p).second)
  votes_called_nan z p h n =
      let g = votes_gives z in
      let few = (sized (votes_called z)).0.most in
      let o = sides_ordered k p few h in
      let t = nan_votes k l p few h n in
      (rw (g.votes (sides_of k p).first (omega (arith, o.0, o.1))) t.0, rw (g.votes (sides_of k p).second o.1) t.1)

  -- ---- whatever it answers

  second : (q : Refusal) → (q ≡ Length) ⊎ Offends Counts (counts_good l.held l.valued) (pairs_of k) 0 q → votes_number q ≡ 2
  second q (inl e) = ap votes_number e
  second q (inr o) = ap votes_number o.refusal

  -- 1 exactly where there aren't 2 to 12 languages, else 0 or 2
  pub votes_called_number : ((votes_host k l v an).code ≤ 2) × ((votes_host k l v an).code ≡ 1 → languages_good k ≡ false) × (languages_good k ≡ false → (votes_host k l v an).code ≡ 1)
  unfolding votes_host voted_on voted_by
  votes_called_number = go (ltb (length an) 24) (votes_judged k l v) refl
    where
      brief : VotesHanded
      brief = votes_handed (cond (languages_good k) 2 1) v an

      Numbered : ℕ → Type 0
      Numbered q = (q ≤ 2) × (q ≡ 1 → languages_good k ≡ false) × (languages_good k ≡ false → q ≡ 1)

      one_two : (b : Bool) → languages_good k ≡ b → Numbered (cond b 2 1)
      one_two true e = (omega arith, λ q. absurd (omega (arith, q)), λ f. absurd (true≢false (sym e ∙ f)))
      one_two false e = (omega arith, λ q. e, λ f. refl)

      go : (b : Bool) (j : Result ⊤ Refusal) → votes_judged k l v ≡ j → Numbered (cond b brief (votes_told (voted_by j k l v) an)).code
      go true j f = one_two (languages_good k) refl
      go false (Ok x) f = (omega arith, λ q. absurd (omega (arith, q)), λ g. absurd (true≢false (sym (fine_languages k l v f) ∙ g)))
      go false (Err q) f = elim (judged_bad k l v q f) [
        | inl x ↦ let e : votes_number q ≡ 1 = ap votes_number x.0 in (omega arith, λ g. x.1, λ g. e)
        | inr x ↦ let e = second q x.1 in (omega arith, λ g. absurd (omega (arith, e, g)), λ g. absurd (true≢false (sym x.0 ∙ g)))
      ]

  -- the votes and the answer
  pub votes_called_leaves : HandsVotes v an (votes_host k l v an)
  unfolding votes_host voted_on voted_by words
  votes_called_leaves = go (ltb (length an) 24) refl (votes_judged k l v) refl
    where
      brief : VotesHanded
      brief = votes_handed (cond (languages_good k) 2 1) v an

      full : (e : Result ℕ Refusal) → Beyond 0 24 an (election_told e an)
      full e = rw (told_words e an) (words_beyond (words e) an 3)

      go : (b : Bool) → ltb (length an) 24 ≡ b → (j : Result ⊤ Refusal) → votes_judged k l v ≡ j → HandsVotes v an (cond b brief (votes_told (voted_by j k l v) an))
      go true e j f =
          let short = ltb-true (length an) 24 e in
          record {
            votes = λ z. refl;
            long = refl;
            answer = beyond_refl _ _ _;
            short = λ s. refl;
            told = λ s. absurd (omega arith);
            nobody = λ s. absurd (omega arith);
          }
      go false e (Ok x) f =
          let room = ltb-false (length an) 24 e in
          record {
            votes = λ z. absurd (z refl);
            long = votes_long (votes_for k l) v k;
            answer = full _;
            short = λ s. absurd (omega arith);
            told = λ s. told_word (Ok (winner_to (votes_for k l) k + 1)) an 0 0 s (omega arith) refl (omega arith);
            nobody = λ s z. absurd (z refl);
          }
      go false e (Err q) f =
          let room = ltb-false (length an) 24 e in
          let small = some_number q in
          record {
            votes = λ z. refl;
            long = refl;
            answer = full _;
            short = λ s. absurd (omega arith);
            told = λ s. told_word (Err q) an 0 (votes_number q) s (omega arith) refl (omega arith);
            nobody = λ s z. told_word (Err q) an 2 0 s (omega arith) refl (omega arith);
          }

  -- the answer's index: 0, or the first pair whose two counts differ
  pub votes_called_index : 24 ≤ length an → (word_in (votes_host k l v an).answer 1 ≡ 0) ⊎ FirstUnlike k l (word_in (votes_host k l v an).answer 1)
  unfolding votes_host voted_on voted_by words counts_good
  votes_called_index room = rw (le-ltb (length an) 24 room) (go (votes_judged k l v) refl)
    where
      Indexed : ℕ → Type 0
      Indexed i = (i ≡ 0) ⊎ FirstUnlike k l i

      unlike : (q : Refusal) (o : Offends Counts (counts_good l.held l.valued) (pairs_of k) 0 q) → FirstUnlike k l o.at
      unlike q o = record {
        below = omega (arith, o.below);
        differ = eqb-false (word_in l.held o.at) (word_in l.valued o.at) o.bad;
        before = λ p h. eqb-true (word_in l.held p) (word_in l.valued p) (o.before p (omega arith) h);
      }

      go : (j : Result ⊤ Refusal) → votes_judged k l v ≡ j → Indexed (word_in (votes_told (voted_by j k l v) an).answer 1)
      go (Ok x) f = inl (told_word (Ok (winner_to (votes_for k l) k + 1)) an 1 0 room (omega arith) refl (omega arith))
      go (Err q) f = elim (judged_bad k l v q f) [
        | inl x ↦ inl (told_word (Err q) an 1 0 room (omega arith) (ap votes_index x.0) (omega arith))
        | inr x ↦ elim x.1 [
          | inl y ↦ inl (told_word (Err q) an 1 0 room (omega arith) (ap votes_index y) (omega arith))
          | inr y ↦
              let few = leb-true k 12 (both (leb 2 k) (leb k 12) x.0).1 in
              let small : y.at < 67 = omega (arith, y.below, pairs_few k few) in
              inr (rw (told_word (Err q) an 1 y.at room (omega arith) (ap votes_index y.refusal) (omega (arith, small))) (unlike q y))
        ]
      ]
