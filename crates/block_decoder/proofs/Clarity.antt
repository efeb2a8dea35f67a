-- Whether all of some characters are clear, by `first_unclear` and by their leads; and the answer by it.
use mathlib.Core.Path.{◌≡◌, refl, sym, ◌∙◌}
use mathlib.Core.Bool.{Bool, true, false, cond}
use mathlib.Core.List.{List}
use Prim.Native.Nat.{ℕ, ◌<◌, ◌≤◌}
use native.Mathlib.Decide.{dec_lt}
use native.Mathlib.Omega.{arith}
use borrow.Author.Tests.{lt-ltb, le-ltb, ltb-false}
use lib.Dec.{ltb}
use lib.ListN.{length}
use Rattle.lists.specs.Laws.{IsFirst}
use Rattle.lists.proofs.Places.{first_is, first_none}
use Rattle.refusal.specs.Refused.{Answered, unclear_at}
use Rattle.refusal.specs.declared.Refusal.{Refusal}
use Rattle.decision.specs.declared.Character.{Character}
use Rattle.block_decoder.specs.Decoding.{lead_in, first_unclear, unless_unclear}
use Rattle.std.proofs.Common.{Ok, Err}

pub text_refused : {n : ℕ} {r : Refusal} → Ok n ≡ Err r → ⊥
text_refused e = let z : ◌≡◌ {A = ℕ} 0 1 = cc in omega arith

module _ (m : ℕ) (characters : List Character) where
  pub unclear_is : IsFirst (λ q. ltb (lead_in characters q) m) (length characters) (first_unclear m characters)
  unfolding first_unclear
  unclear_is = first_is (λ q. ltb (lead_in characters q) m) (length characters)

  pub all_clear : ((q : ℕ) → q < length characters → m ≤ lead_in characters q) → length characters ≤ first_unclear m characters
  unfolding first_unclear
  all_clear h = omega (arith, first_none (λ q. ltb (lead_in characters q) m) (length characters) (λ q l. le-ltb (lead_in characters q) m (h q l)))

  pub clear_lead : length characters ≤ first_unclear m characters → (q : ℕ) → q < length characters → m ≤ lead_in characters q
  clear_lead h q l = ltb-false (lead_in characters q) m (unclear_is.lowest q (omega arith))

  module _ (clear : Answered ℕ) where
    pub unclear_told : first_unclear m characters < length characters
        → unless_unclear m characters clear ≡ Err (unclear_at (first_unclear m characters) (lead_in characters (first_unclear m characters)))
    unfolding unless_unclear
    unclear_told h = simp (lt-ltb (first_unclear m characters) (length characters) h)

    pub clear_told : length characters ≤ first_unclear m characters → unless_unclear m characters clear ≡ clear
    unfolding unless_unclear
    clear_told h = simp (le-ltb (first_unclear m characters) (length characters) h)

    -- a text is answered only where all are clear
    pub text_told : (n : ℕ) → unless_unclear m characters clear ≡ Ok n → (length characters ≤ first_unclear m characters) × (clear ≡ Ok n)
    unfolding unless_unclear
    text_told n e = by (ltb (first_unclear m characters) (length characters)) refl e
      where
        by : (t : Bool) → ltb (first_unclear m characters) (length characters) ≡ t
            → cond t (Err (unclear_at (first_unclear m characters) (lead_in characters (first_unclear m characters)))) clear ≡ Ok n
            → (length characters ≤ first_unclear m characters) × (clear ≡ Ok n)
        by true l e = let z : ◌≡◌ {A = ℕ} 0 1 = cc in absurd (omega arith)
        by false l e = (ltb-false (first_unclear m characters) (length characters) l, e)

-- a refusal of some characters does not hang on the answer that clear ones would have
pub refused_alike : (m : ℕ) (characters : List Character) (n : ℕ) (clear : Answered ℕ) {r : Refusal} → unless_unclear m characters (Ok n) ≡ Err r
    → unless_unclear m characters clear ≡ Err r
refused_alike m characters n clear {r} e = by (dec_lt (first_unclear m characters) (length characters))
  where
    by : Dec (first_unclear m characters < length characters) → unless_unclear m characters clear ≡ Err r
    by (yes l) = unclear_told m characters clear l ∙ sym (unclear_told m characters (Ok n) l) ∙ e
    by (no g) = absurd (text_refused (sym (clear_told m characters (Ok n) (omega arith)) ∙ e))
