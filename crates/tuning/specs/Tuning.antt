-- What a caller may set beside a problem (the rule, sections 'The floor' and 'Modes').
use Rattle.std.specs.Prelude.{Float}
use Rattle.alpha.specs.Weight as Weight
use Rattle.modes.specs.declared.Mode.{Mode}
use Rattle.modes.specs.declared.Mode.TheVariants.{Crate}
use Rattle.tuning.specs.declared.Tuning.{Tuning}

abbrev pub tuned : Float → Mode → Tuning
tuned x mode = record { floor = x; mode = mode }

-- the published Rust's: the f64 nearest 1e-10, and ceilings that stay in their places
abbrev pub plain_tuning : Tuning
plain_tuning = tuned Weight.floor Crate
