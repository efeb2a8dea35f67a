-- What codes deliver, by the end of their text and the zeros before it.
use mathlib.Core.Path.{◌≡◌, ◌∙◌, ap}
use mathlib.Core.List.{List}
use Prim.Native.Nat.{ℕ, ◌≤◌}
use native.Mathlib.Omega.{arith}
use borrow.Author.Tests.{eq-eqb, ne_eqb, eqb-false}
use lib.ListN.{length}
use Rattle.lists.specs.Lists.{num}
use Rattle.lists.specs.Places.{first}
use Rattle.lists.proofs.Places.{first_is, first_at, first_none}
use Rattle.refusal.specs.Refused.{refused_at}
use Rattle.delivery.specs.Delivery.{is_zero, text_end}
use Rattle.delivery.specs.Laws.{IsEnd, NoZero, Delivers, Answers}
use Rattle.delivery.proofs.TextCases.{refuses_zero, refuses_filling, refuses_long, delivers}
use Rattle.delivery.proofs.TextEnds.{end_within, end_only}
use Rattle.std.proofs.Common.{Err}
use Rattle.refusal.specs.declared.Reason.{Reason}

module _ (codes : List ℕ) (n : ℕ) where
  none_before : NoZero codes n → n ≤ first (is_zero codes) n
  none_before f = omega (arith, first_none (is_zero codes) n (λ i l. ne_eqb (num codes i) 0 (f i l)))

  pub no_zero_before : n ≤ first (is_zero codes) n → NoZero codes n
  no_zero_before h i l = eqb-false (num codes i) 0 ((first_is (is_zero codes) n).lowest i (omega arith))

delivers_by : (limit b : ℕ) (codes : List ℕ) (n : ℕ) → IsEnd codes n → Delivers limit b codes n
delivers_by limit b codes n f =
    let end : n ≡ text_end codes = end_only codes n f in
    let inside : n ≤ length codes = omega (arith, end_within codes) in
    record {
      zero = λ i l e g.
          let here : first (is_zero codes) n ≡ i = first_at (is_zero codes) n i l (eq-eqb (num codes i) 0 e) (λ k h. ne_eqb (num codes k) 0 (g k h)) in
          refuses_zero limit b codes n end (omega arith) ∙ ap (λ (p : ℕ). Err (refused_at Reason.Zero p)) here;
      filling = λ g h. refuses_filling limit b codes n end (none_before codes n g) (omega arith);
      too_long = λ g h l. refuses_long limit b codes n end (none_before codes n g) (omega arith) l;
      text = λ g h l. delivers limit b codes n (record { end = end; no_zero = none_before codes n g; filling = omega arith; fits = l });
    }

pub answers : Answers
answers = record { delivers = delivers_by }
