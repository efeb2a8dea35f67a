-- XOR of two bits, as turning one by the other and as their difference.
use mathlib.Core.Path.{◌≡◌, refl}
use mathlib.Core.Bool.{Bool, true, false, not, beq}
use Rattle.walsh.specs.Words.{turned}

pub turned_twice : (k b : Bool) → turned k (turned k b) ≡ b
turned_twice true true = refl
turned_twice true false = refl
turned_twice false b = refl

pub turned_differs : (key bit : Bool) → turned key bit ≡ not (beq bit key)
turned_differs true true = refl
turned_differs true false = refl
turned_differs false true = refl
turned_differs false false = refl
