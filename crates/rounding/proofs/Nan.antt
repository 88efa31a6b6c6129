-- A NaN is below and above nothing, and whatever it enters is one. Assumes nothing.
use mathlib.Core.Bool.{false}
use mathlib.Core.Path.{◌≡◌, refl}
use lib.Ieee.{Float, nan, inf, fin, binary64, neg, add, sub, mul, lt, le, eq}

pub lt_nan : (x : Float) → lt x nan ≡ false
unfolding lt
lt_nan nan = refl
lt_nan (inf s) = refl
lt_nan (fin s m e) = refl

pub nan_lt : (x : Float) → lt nan x ≡ false
unfolding lt
nan_lt x = refl

pub le_nan : (x : Float) → le x nan ≡ false
unfolding le lt eq
le_nan nan = refl
le_nan (inf s) = refl
le_nan (fin s m e) = refl

pub nan_le : (x : Float) → le nan x ≡ false
unfolding le lt eq
nan_le x = refl

pub add_nan : (x : Float) → add binary64 x nan ≡ nan
unfolding add
add_nan nan = refl
add_nan (inf s) = refl
add_nan (fin s m e) = refl

pub nan_add : (x : Float) → add binary64 nan x ≡ nan
unfolding add
nan_add x = refl

pub mul_nan : (x : Float) → mul binary64 x nan ≡ nan
unfolding mul
mul_nan nan = refl
mul_nan (inf s) = refl
mul_nan (fin s m e) = refl

pub neg_nan : neg nan ≡ nan
unfolding neg
neg_nan = refl

pub sub_nan : (x : Float) → sub binary64 x nan ≡ nan
unfolding sub neg
sub_nan x = add_nan x
