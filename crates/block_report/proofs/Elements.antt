-- The correlations of a character fit their type.
use mathlib.Core.List.{List}
use denote.Shadow.{shadow}
use denote.Struct.Declared.{row}
use mir.Syntax.{w32}
use mir.Val.{Val, SFits}
use Rattle.decision.specs.declared.Character.{Character}
use Rattle.decision.specs.contracts.Character.{the_type}

pub correlations_fit : (x : Character) (us : List Val) → shadow ((row the_type).own_val x us) → SFits w32 x.correlation × SFits w32 x.next_correlation
correlations_fit x us p = (record { sfits = p.1.1.1.1.1.0.1 }, record { sfits = p.1.1.1.1.1.1.1.0.1 })
