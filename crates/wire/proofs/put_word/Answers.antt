use Rattle.std.proofs.Common.{◌≡◌, ℕ, suc, ◌+◌, List, [], ◌∷◌, refl, sym, ◌∙◌, add-zero, div-one, arith}
use Rattle.std.proofs.lemmas.List.Edits.{sets, sets-eq}
use Rattle.std.proofs.lemmas.Slice.{put_mid-paste}
use Rattle.std.proofs.Math.ListN.{set}
use Rattle.std.specs.Int.{w64, to_le_bytes}
use Rattle.wire.specs.Wire.{with_digits}
use Rattle.wire.proofs.put_word.Goals as goal

-- eight writes one after the other, by each one's place
places : (b : List ℕ) (at p q r s t u v w : ℕ)
    → sets b at (p ∷ q ∷ r ∷ s ∷ t ∷ u ∷ v ∷ w ∷ []) ≡ set (set (set (set (set (set (set (set b at p) (at + 1) q) (at + 2) r) (at + 3) s) (at + 4) t) (at + 5) u) (at + 6) v) (at + 7) w
places b at p q r s t u v w =
    let a : at + 1 ≡ suc at = omega arith in
    let c : at + 2 ≡ suc (suc at) = omega arith in
    let d : at + 3 ≡ suc (suc (suc at)) = omega arith in
    let e : at + 4 ≡ suc (suc (suc (suc at))) = omega arith in
    let f : at + 5 ≡ suc (suc (suc (suc (suc at)))) = omega arith in
    let g : at + 6 ≡ suc (suc (suc (suc (suc (suc at))))) = omega arith in
    let h : at + 7 ≡ suc (suc (suc (suc (suc (suc (suc at)))))) = omega arith in
    rw (a, c, d, e, f, g, h)

pub returns : goal.returns
unfolding with_digits
returns c =
    let n : ℕ = c.args.w in
    put_mid-paste _ _ _ _ (to_le_bytes w64 n) 8 (c.copy_from_slice.ensures.after ∙ c.to_le_bytes.ensures) (omega arith) refl
    ∙ sym (sets-eq (to_le_bytes w64 n) c.args.b.now c.args.at c.requires)
    ∙ simp (add-zero, div-one) (places c.args.b.now c.args.at _ _ _ _ _ _ _ _)
