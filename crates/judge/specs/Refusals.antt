-- Each refusal's number and index, as the bytes of an answer have them (the rule, section 'What a caller lends and gets').
use Rattle.std.specs.Prelude.{ℕ}
use Rattle.judge.specs.declared.Refusal.{Refusal}
use Rattle.judge.specs.declared.Refusal.TheVariants.{Samples, Length, Kernel, Label, Ceiling, Alpha, Linear, Eps, Nu, Budget, ShrunkAway, Retired, RetiredShrinking, Floor}

abbrev pub number : Refusal → ℕ
number Samples = 1
number Length = 2
number (Kernel i) = 3
number (Label i) = 4
number (Ceiling i) = 5
number (Alpha i) = 6
number (Linear i) = 7
number Eps = 8
number Nu = 9
number Budget = 10
number ShrunkAway = 11
number Retired = 12
number RetiredShrinking = 13
number Floor = 14

-- the first offending index, 0 where there is none
abbrev pub index_of : Refusal → ℕ
index_of Samples = 0
index_of Length = 0
index_of (Kernel i) = i
index_of (Label i) = i
index_of (Ceiling i) = i
index_of (Alpha i) = i
index_of (Linear i) = i
index_of Eps = 0
index_of Nu = 0
index_of Budget = 0
index_of ShrunkAway = 0
index_of Retired = 0
index_of RetiredShrinking = 0
index_of Floor = 0
